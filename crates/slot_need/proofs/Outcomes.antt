-- What a returned scenario promises.
use Rattle.std.specs.Prelude.{IfOk, OnOk, Result, Ok, Err}

pub of-ok : {T E : Type 0} (P Q : T → Type 0) (F : Type 0) (r : Result T E) → (F → (t : T) → P t → Q t) → OnOk r F → IfOk r P → IfOk r Q
of-ok P Q F (Ok t) gives fit is = gives fit t is
of-ok P Q F (Err e) gives fit is = tt
