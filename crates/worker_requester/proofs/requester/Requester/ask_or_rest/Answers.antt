use Rattle.worker_requester.proofs.requester.Requester.ask_or_rest.Goals as goal

pub returns-in-Held-clause-tried : goal.returns-in-Held-clause-tried
returns-in-Held-clause-tried g c = λ before none. c.arm_or_sleep.ensures.tried before c.args.self.now.end.end none c.in-Held.ensures.tried
