use Rattle.std.proofs.Common.{ap, ◌-◌, ◌∙◌}
use Rattle.worker_port.specs.Line.{words_at}
use Rattle.worker_port.proofs.port.Port.last_words.Goals as goal

pub returns-clause-value : goal.returns-clause-value
returns-clause-value g c = c.words.ensures.value ∙ ap (λ n. words_at c.args.self.now.end.state.pages.got (n - 1)) c.got_len.ensures
