use Rattle.std.proofs.Common.{ℕ, List, sym, ◌∙◌, subst}
use Rattle.channel_trace.specs.Runs.{IsFront}
use Rattle.sock_run.proofs.Joining.{joins}
use Rattle.sock_run.proofs.close.close.Goals as goal

pub returns : goal.returns
returns c =
    let f = c.finish.ensures in
    joins c.args.pair.now.value c.args.guest.ended c.args.host.ended c.args.guest.output.items c.args.guest.end c.args.host.end c.finish.result (record {
      pair = c.requires.pair;
      guest = c.requires.guest;
      host = c.requires.host;
      run = f.run;
      guest_front = subst (λ (q : List (List ℕ) × List (List ℕ)). IsFront q.0 q.1) (λ i. (f.guest.1 i, f.host.0 i)) f.fronts.0;
      host_front_is = subst (λ (q : List (List ℕ) × List (List ℕ)). IsFront q.0 q.1) (λ i. (f.host.1 i, f.guest.0 i)) f.fronts.1;
      guest_past = (sym f.guest.0 ∙ f.guest_past.0, sym f.guest.1 ∙ f.guest_past.1);
      host_past = (sym f.host.0 ∙ f.host_past.0, sym f.host.1 ∙ f.host_past.1);
      guest_lists = f.guest;
      host_lists = f.host;
    })
