-- Where a text ends, and texts one after the other.
use Rattle.std.proofs.Common.{◌≡◌, ℕ, List, [], ◌∷◌, ◌++◌, length, refl, sym, ◌∙◌, subst, append_assoc, arith}
use Rattle.std.specs.List.{AllByRecursion, flat_map}
use Rattle.cert_law.specs.Unique.{Starts, IsSelfEnding}

pub head : (a b : ℕ) (x y : List ℕ) → a ∷ x ≡ b ∷ y → (a ≡ b) × (x ≡ y)
head a b x y e = (cc, cc)

-- bytes of one kind end where a byte of another kind stands
pub cut : (inside outside : ℕ → Type 0) → ((b : ℕ) → inside b → outside b → ⊥) → (a b x y : List ℕ) → AllByRecursion inside a → AllByRecursion inside b → Starts outside x → Starts outside y
    → a ++ x ≡ b ++ y → (a ≡ b) × (x ≡ y)
cut inside outside apart [] [] x y ia ib ox oy e = (refl, e)
cut inside outside apart [] (b ∷ bs) [] y ia ib ox oy e = absurd cc
cut inside outside apart [] (b ∷ bs) (c ∷ cs) y ia ib ox oy e = absurd (apart b ib.0 (subst outside (head c b cs (bs ++ y) e).0 ox))
cut inside outside apart (a ∷ more) [] x [] ia ib ox oy e = absurd cc
cut inside outside apart (a ∷ more) [] x (c ∷ cs) ia ib ox oy e = absurd (apart a ia.0 (subst outside (sym (head a c (more ++ x) cs e).0) oy))
cut inside outside apart (a ∷ more) (b ∷ bs) x y ia ib ox oy e =
    let h = head a b (more ++ x) (bs ++ y) e in
    let r = cut inside outside apart more bs x y ia.1 ib.1 ox oy h.1 in
    (cc (h.0, r.0), r.1)

-- one after the other: the first as a fact, and the equation that is left
pub next : {A : Type 0} (Ok : A → Type 0) (f : A → List ℕ) → IsSelfEnding Ok f → (a b : A) (g h x y : List ℕ) → Ok a → Ok b → (f a ++ g) ++ x ≡ (f b ++ h) ++ y → (a ≡ b) × (g ++ x ≡ h ++ y)
next Ok f unique a b g h x y oa ob e = unique.one a b (g ++ x) (h ++ y) oa ob (sym (append_assoc (f a) g x) ∙ e ∙ append_assoc (f b) h y)

-- as many as a count before them says
pub all_of : {A : Type 0} (Ok : A → Type 0) (f : A → List ℕ) → IsSelfEnding Ok f → (xs ys : List A) (x y : List ℕ) → length xs ≡ length ys → AllByRecursion Ok xs → AllByRecursion Ok ys
    → flat_map f xs ++ x ≡ flat_map f ys ++ y → (xs ≡ ys) × (x ≡ y)
all_of Ok f unique [] [] x y len ox oy e = (refl, e)
all_of Ok f unique [] (b ∷ ys) x y len ox oy e = absurd (omega (arith, len))
all_of Ok f unique (a ∷ xs) [] x y len ox oy e = absurd (omega (arith, len))
all_of Ok f unique (a ∷ xs) (b ∷ ys) x y len ox oy e =
    let h = next Ok f unique a b (flat_map f xs) (flat_map f ys) x y ox.0 oy.0 e in
    let r = all_of Ok f unique xs ys x y (omega (arith, len)) ox.1 oy.1 h.1 in
    (cc (h.0, r.0), r.1)

-- the same front
pub same_front : (w x y : List ℕ) → w ++ x ≡ w ++ y → x ≡ y
same_front [] x y e = e
same_front (b ∷ w) x y e = same_front w x y (head b b (w ++ x) (w ++ y) e).1
