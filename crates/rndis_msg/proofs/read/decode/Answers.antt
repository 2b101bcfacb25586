use Rattle.rndis_msg.proofs.ReadLaws.{parsed_found, parsed_only, parsed_fault, parsed_faulty, parsed_value}
use Rattle.rndis_msg.proofs.read.decode.Goals as goal

pub returns-clause-found : goal.returns-clause-found
returns-clause-found c = parsed_found c.args.bytes.now c.parse.result c.parse.ensures

pub returns-clause-only : goal.returns-clause-only
returns-clause-only c = parsed_only c.args.bytes.now c.parse.result c.parse.ensures

pub returns-clause-fault : goal.returns-clause-fault
returns-clause-fault c = parsed_fault c.args.bytes.now c.parse.result c.parse.ensures

pub returns-clause-faulty : goal.returns-clause-faulty
returns-clause-faulty c = parsed_faulty c.args.bytes.now c.parse.result c.parse.ensures

pub returns-clause-value : goal.returns-clause-value
returns-clause-value c = parsed_value c.args.bytes.now c.parse.result c.parse.ensures
