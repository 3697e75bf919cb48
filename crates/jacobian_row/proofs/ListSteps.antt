-- Lists that are made one element after the other.
use Rattle.std.proofs.Common.{◌≡◌, ℕ, zero, suc, ◌+◌, ◌<◌, ◌≤◌, Bool, true, false, cond, List, [], ◌∷◌, ◌++◌, length, take, get_or, map, sum, refl, sym, ap, subst, ◌∙◌, append_assoc, append-nil, arith}
use Rattle.std.specs.List.{filter, All}
use Rattle.std.proofs.lemmas.List.{take_more, map-append}
use Rattle.mono_exp.proofs.Lists.{sum-cons}
use Rattle.jet_law.proofs.Gather.{filter-append}
use Rattle.jacobian_row.specs.Rows.{EachIndexIs}

module _ {X Y : Type 0} (p : X → Bool) (f : X → Y) (xs : List X) (i : ℕ) (t : X) (within : i < length xs) (read : t ≡ get_or xs i t) where
  taken : take (i + 1) xs ≡ take i xs ++ (t ∷ [])
  taken = take_more xs i t within ∙ ap (λ y. take i xs ++ (y ∷ [])) (sym read)

  split : map f (filter p (take (i + 1) xs)) ≡ map f (filter p (take i xs)) ++ map f (cond (p t) (t ∷ []) [])
  split = ap (λ ys. map f (filter p ys)) taken ∙ ap (map f) (filter-append p (take i xs) (t ∷ [])) ∙ map-append f (filter p (take i xs)) (cond (p t) (t ∷ []) [])

  -- an element that passes the test
  pub kept_step : p t ≡ true → map f (filter p (take (i + 1) xs)) ≡ map f (filter p (take i xs)) ++ (f t ∷ [])
  kept_step h = split ∙ ap (λ b. map f (filter p (take i xs)) ++ map f (cond b (t ∷ []) [])) h

  -- and one that does not
  pub left_out_step : p t ≡ false → map f (filter p (take (i + 1) xs)) ≡ map f (filter p (take i xs))
  left_out_step h = split ∙ ap (λ b. map f (filter p (take i xs)) ++ map f (cond b (t ∷ []) [])) h ∙ append-nil (map f (filter p (take i xs)))

-- one element more, with its number
pub each_index_push : {X : Type 0} (P : ℕ → X → Type 0) (xs : List X) (x : X) → EachIndexIs P xs → P (length xs) x → EachIndexIs P (xs ++ (x ∷ []))
each_index_push P [] x each h zero d within = h
each_index_push P [] x each h (suc i) d within = absurd (omega arith)
each_index_push P (y ∷ xs) x each h zero d within = each 0 d (omega arith)
each_index_push P (y ∷ xs) x each h (suc i) d within = each_index_push (λ i. P (suc i)) xs x (λ j e inside. each (suc j) e (omega arith)) h i d (omega arith)

pub each_index_none : {X : Type 0} (P : ℕ → X → Type 0) (xs : List X) → xs ≡ [] → EachIndexIs P xs
each_index_none P xs e = subst (EachIndexIs P) (sym e) (λ i x h. absurd (omega arith))

-- an entry is at most the sum
pub entry_small : (xs : List ℕ) (i : ℕ) → get_or xs i 0 ≤ sum xs
entry_small [] i = omega arith
entry_small (x ∷ xs) zero = let e = sum-cons x xs in omega arith
entry_small (x ∷ xs) (suc i) = let e = sum-cons x xs in let r = entry_small xs i in omega arith

-- what holds of all holds of one
pub element : {X : Type 0} (P : X → Type 0) (xs : List X) (i : ℕ) (x : X) → i < length xs → x ≡ get_or xs i x → All P xs → P x
element P xs i x within read all = subst P (sym read) (all i x within)

-- what is read does not depend on what stands past the end
pub same_default : {X : Type 0} (xs : List X) (i : ℕ) (d e : X) → i < length xs → get_or xs i d ≡ get_or xs i e
same_default [] i d e h = absurd (omega arith)
same_default (x ∷ xs) zero d e h = refl
same_default (x ∷ xs) (suc i) d e h = same_default xs i d e (omega arith)

-- the images of a list and of the first elements of another, one more
pub images_after : {X Z : Type 0} (f : X → Z) (all more : List X) (before : List Z) (i : ℕ) (x : X) → i < length more → x ≡ get_or more i x → map f all ≡ before ++ map f (take i more) → map f (all ++ (x ∷ [])) ≡ before ++ map f (take (i + 1) more)
images_after f all more before i x within read e =
    map-append f all (x ∷ []) ∙ ap (λ us. us ++ (f x ∷ [])) e ∙ append_assoc before (map f (take i more)) (f x ∷ [])
    ∙ ap (λ us. before ++ us) (sym (ap (map f) (take_more more i x within ∙ ap (λ z. take i more ++ (z ∷ [])) (sym read)) ∙ map-append f (take i more) (x ∷ [])))
