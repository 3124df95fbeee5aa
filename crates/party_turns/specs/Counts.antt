-- How many turns a crew counts of a party.
use Rattle.std.specs.Prelude.{◌≡◌, ℕ}
use Rattle.dbp_plan.specs.Calls.{one_more}
use Rattle.party_turns.specs.declared.party.Party.{Party}
use Rattle.party_turns.specs.declared.party.Party.TheVariants.{Releaser, Task}

-- how many turns were counted of the party
abbrev pub turns_made : Party → ℕ
turns_made (Releaser s) = s.turns
turns_made (Task s) = s.turns

-- the same party, with one turn more in its count, which stays at the last number of 64 bits
abbrev pub IsCounted : Party → Party → Type 0
IsCounted (Releaser old) (Releaser new) = (new.seat ≡ old.seat) × (new.book ≡ old.book) × (new.turns ≡ one_more old.turns)
IsCounted (Task old) (Task new) = (new.seat ≡ old.seat) × (new.work ≡ old.work) × (new.rows ≡ old.rows) × (new.turns ≡ one_more old.turns)
IsCounted _ _ = ⊥
