use Rattle.bus_report_bound.proofs.DataLines.{data_stands}
use Rattle.bus_report_bound.proofs.FewBack.{few_runs_back_lem, report_fits_lem}
use Rattle.bus_report_bound.proofs.laws.few_runs_back.Goals as goal

pub returns-clause-few : goal.returns-clause-few
returns-clause-few c = few_runs_back_lem

pub returns-clause-stands : goal.returns-clause-stands
returns-clause-stands c = data_stands

pub returns-clause-fits : goal.returns-clause-fits
returns-clause-fits c = report_fits_lem
