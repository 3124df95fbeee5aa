use Rattle.std.proofs.Common.{List, refl, ap, length}
use Rattle.party_turns.specs.declared.party.Party.{Party}
use Rattle.party_turns.proofs.Fresh.{fresh_first, pushed_first}
use Rattle.party_turns.proofs.begin.releaser_alone.Goals as goal

pub returns : goal.returns
returns c =
    let pushed = pushed_first c.push.new.self c.new-parties.result _ c.in_ok-push.ensures.ok c.new-parties.ensures in
    record {
      size = ap (λ (l : List Party). length l) pushed;
      each = fresh_first c.args.words.now c.push.new.self _ pushed (record { seat = c.requires.first; turns = refl });
    }
