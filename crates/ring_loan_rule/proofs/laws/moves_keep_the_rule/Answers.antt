use Rattle.ring_loan_rule.proofs.Keeping.{keeps_sent, keeps_took}
use Rattle.ring_loan_rule.proofs.Steps.{keeps_stored, last_packet, last_is, keeps_loaded}
use Rattle.page_kept.specs.Stepped.{word_in}
use Rattle.ring_loan_rule.proofs.laws.moves_keep_the_rule.Goals as goal

pub returns : goal.returns
returns g = λ l s base ws took k y fit all o. (
  keeps_sent l s (word_in base ws) took k y fit o,
  λ i more clear nx. keeps_took l s (word_in base ws) took k y fit o clear i more nx,
  keeps_stored l s base ws took k y fit all o,
  λ q n j due a b. (last_packet l s base ws took k y fit all o q n j due a b, last_is l s base ws took k y fit all o q n j due a b, keeps_loaded l s base ws took k y fit all o q n j due a b),
)
