use Rattle.page_home_laws.proofs.Keeping.{keeps_ask, keeps_said, keeps_given, keeps_back, keeps_taken, keeps_stored, keeps_loaded}
use Rattle.page_home_laws.proofs.laws.ids_keep_their_pages.Goals as goal

pub returns : goal.returns
returns g = λ l s is_open took k fit h. (
  keeps_ask l s is_open took k fit h,
  keeps_said l s is_open took k fit h,
  keeps_given l s is_open took k fit h,
  keeps_back l s is_open took k fit h,
  keeps_taken l s is_open took k fit h,
  keeps_stored l s is_open took k fit h,
  keeps_loaded l s is_open took k fit h,
)
