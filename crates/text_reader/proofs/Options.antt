-- Facts about an optional value, case by case.
use Rattle.std.proofs.Common.{◌≡◌, Option, Some, None}
use Rattle.std.specs.Prelude.{MatchOption, IfSome}

pub some_from : {X : Type 0} (r : Option X) (P : Type 0) (Q : X → Type 0) → MatchOption r P Q → IfSome r Q
some_from None P Q h = tt
some_from (Some x) P Q h = h

pub none_from : {X : Type 0} (r : Option X) (P : Type 0) (Q : X → Type 0) → MatchOption r P Q → r ≡ None → P
none_from None P Q h e = h
none_from (Some x) P Q h e = absurd cc

pub some_map : {X : Type 0} (r : Option X) (P Q : X → Type 0) → ((x : X) → P x → Q x) → IfSome r P → IfSome r Q
some_map None P Q f h = tt
some_map (Some x) P Q f h = f x h
