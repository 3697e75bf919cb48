-- Lists that are made one element after the other.
use Rattle.std.proofs.Common.{◌≡◌, ℕ, zero, suc, ◌+◌, ◌<◌, Bool, true, false, ◌||◌, eqb, List, [], ◌∷◌, ◌++◌, length, take, get_or, map, refl, sym, ap, ap₂, subst, ◌∙◌, arith}
use Rattle.std.specs.List.{AllByRecursion}
use Rattle.std.proofs.lemmas.List.{take_more, map-append}
use Rattle.ring_theory.specs.Scalars.{Meaning}
use Rattle.mono_exp.specs.declared.exponent.Exp.{Exp}
use Rattle.lin_row.specs.Lines.{lead_of}
use Rattle.lin_row.specs.declared.row.Row.{Row}
use Rattle.lin_row.specs.declared.row.Remainder.{Remainder}
use Rattle.jacobian_row.specs.declared.multiple.Multiple.{Multiple}
use Rattle.jacobian_row.proofs.ListSteps.{same_default}
use Rattle.milnor_alg.specs.declared.quotient.TableRow.{TableRow}
use Rattle.jet_quotient.specs.Answers.{begins_at, IsRowBy}

pub begins_more : {E : Type 0} (form : List (Row E)) (i c : ℕ) (row : Row E) → i < length form → row ≡ get_or form i row → eqb (lead_of row.entries) c ≡ false → begins_at (take i form) c ≡ false → begins_at (take (i + 1) form) c ≡ false
begins_more {E} form i c row within read differ before = subst (λ ys. begins_at ys c ≡ false) (sym (take_more form i row within ∙ ap (λ y. take i form ++ (y ∷ [])) (sym read))) (go (take i form) before)
  where
    go : (ys : List (Row E)) → begins_at ys c ≡ false → begins_at (ys ++ (row ∷ [])) c ≡ false
    go [] h = ap (λ b. b || false) differ
    go (y ∷ ys) h = split (eqb (lead_of y.entries) c) h (go ys)
      where
        split : (b : Bool) → (b || begins_at ys c) ≡ false → (begins_at ys c ≡ false → begins_at (ys ++ (row ∷ [])) c ≡ false) → (b || begins_at (ys ++ (row ∷ [])) c) ≡ false
        split true k next = k
        split false k next = next k

pub begins_here : {E : Type 0} (form : List (Row E)) (i c : ℕ) (row : Row E) → i < length form → row ≡ get_or form i row → eqb (lead_of row.entries) c ≡ true → begins_at form c ≡ true
begins_here [] i c row within read same = absurd (omega arith)
begins_here (y ∷ form) zero c row within read same = ap (λ b. b || begins_at form c) (ap (λ (z : Row _). eqb (lead_of z.entries) c) (sym read) ∙ same)
begins_here (y ∷ form) (suc i) c row within read same = ap (λ b. eqb (lead_of y.entries) c || b) (begins_here form i c row (omega arith) read same) ∙ or_true (eqb (lead_of y.entries) c)
  where
    or_true : (b : Bool) → (b || true) ≡ true
    or_true true = refl
    or_true false = refl

pub map-self : {X : Type 0} (xs : List X) → map (λ x. x) xs ≡ xs
map-self [] = refl
map-self (x ∷ xs) = ap (λ ys. x ∷ ys) (map-self xs)

-- a list of images, one more
pub images_more : {X Y Z : Type 0} (f : X → Z) (g : Y → Z) (xs : List X) (ys : List Y) (i : ℕ) (x : X) (y : Y) → i < length ys → y ≡ get_or ys i y → map f xs ≡ map g (take i ys) → f x ≡ g y → map f (xs ++ (x ∷ [])) ≡ map g (take (i + 1) ys)
images_more f g xs ys i x y within read before here =
    map-append f xs (x ∷ []) ∙ ap₂ (λ us z. us ++ (z ∷ [])) before here
    ∙ sym (ap (map g) (take_more ys i y within ∙ ap (λ z. take i ys ++ (z ∷ [])) (sym read)) ∙ map-append g (take i ys) (y ∷ []))

pub recursion_push : {X : Type 0} (P : X → Type 0) (xs : List X) (x : X) → AllByRecursion P xs → P x → AllByRecursion P (xs ++ (x ∷ []))
recursion_push P [] x a p = (p, tt)
recursion_push P (y ∷ xs) x a p = (a.0, recursion_push P xs x a.1 p)

-- the row of a monomial, at its place
pub row_here : {E V : Type 0} (m : Meaning E V) (n k : ℕ) (us : List Multiple) (basis monomials : List Exp) (rests : List (Remainder E)) (i j : ℕ) (d : Exp) (x : Remainder E) (row : TableRow E) → i < length monomials → i < length rests → x ≡ get_or rests i x → j ≡ i
    → IsRowBy m n k us basis (get_or monomials i d) x row → (a : Exp) (s : Remainder E) → IsRowBy m n k us basis (get_or monomials j a) (get_or rests j s) row
row_here m n k us basis monomials rests i j d x row in_monomials in_rests read e h a s =
    subst (λ l. IsRowBy m n k us basis (get_or monomials l a) (get_or rests l s) row) (sym e)
    (subst (λ y. IsRowBy m n k us basis (get_or monomials i a) y row) (read ∙ same_default rests i x s in_rests)
    (subst (λ b. IsRowBy m n k us basis b x row) (same_default monomials i d a in_monomials) h))
