-- One reading of a polynomial: its first term may be constant, and the others are not.
use Rattle.std.proofs.Common.{◌≡◌, ℕ, ◌+◌, ◌<◌, ◌≤◌, ◌^◌, Bool, true, false, cond, eqb, ◌&&◌, List, [], ◌∷◌, ◌++◌, length, refl, sym, ap, ◌∙◌, subst, append_assoc, arith, inl, inr}
use Rattle.std.specs.Prelude.{decimal, map, not}
use Rattle.std.specs.List.{AllByRecursion, flat_map, list_all, zip}
use Rattle.std.proofs.lemmas.Bool.{eqb-true}
use Rattle.std.proofs.lemmas.List.{append-nil, append_cancel_right}
use Rattle.std.proofs.lemmas.List.Concat.{flat_map-append}
use Rattle.ring_law.specs.declared.fraction.Frac.{Frac}
use Rattle.cert_law.specs.Fields.{Element}
use Rattle.mono_exp.specs.declared.exponent.Exp.{Exp}
use Rattle.cert_law.specs.Fields.{Term}
use Rattle.poly_text.specs.Numbers.{Piece, is_zero_fraction, piece_text, without_plus, without_zeros, components, components_text, letters, numbers, scaled_text, signed_text}
use Rattle.poly_text.specs.Polynomials.{is_one, new_names, term_in}
use Rattle.cert_law.specs.Unique.{Starts}
use Rattle.cert_law.specs.Fields.{IsBody, IsInside, EndsSum, IsPiece, IsSmallElement, IsMonomial, IsTerm, IsHigher, IsPolynomial}
use Rattle.cert_law.proofs.Elements.{components_are, element_pieces, element_tells}
use Rattle.cert_law.proofs.Monomials.{starred, starred_is, factors_from, present, raised, monomial_one, exponents_is}
use Rattle.cert_law.proofs.Lumps.{Lump, Simple, Bracketed, lump_text, IsLump, lump_sum_one}
use Rattle.cert_law.proofs.Terms.{lump_by, scaled_is}
use Rattle.cert_law.proofs.Cut.{cut}
use Rattle.cert_law.proofs.Numbers.{digits, all_append, IsDigit}
use Rattle.cert_law.proofs.Valid.{all_from}

-- ---- the factors of a monomial that is not 1 are a body

-- a body of a monomial: a star and a `u` at the front
abbrev pub IsFactors : List ℕ → Type 0
IsFactors [] = ⊥
IsFactors (star ∷ []) = ⊥
IsFactors (star ∷ c ∷ body) = (star ≡ 42) × (c ≡ 117) × AllByRecursion IsInside body

inside_append : (xs ys : List ℕ) → AllByRecursion IsInside xs → AllByRecursion IsInside ys → AllByRecursion IsInside (xs ++ ys)
inside_append [] ys p q = q
inside_append (x ∷ xs) ys p q = (p.0, inside_append xs ys p.1 q)

inside_digits : (ds : List ℕ) → AllByRecursion IsDigit ds → AllByRecursion IsInside ds
inside_digits [] p = tt
inside_digits (d ∷ ds) p = (inl (omega (arith, p.0.0)), inside_digits ds p.1)

inside_raised : (t : Bool) (e : ℕ) → e < 10 ^ 64 → AllByRecursion IsInside (cond t [] (94 ∷ decimal e))
inside_raised true e lt = tt
inside_raised false e lt = (inl (omega arith), inside_digits (decimal e) (digits e lt))

inside_factor : (t : Bool) (d e : ℕ) → 46 ≤ d → e < 10 ^ 64 → AllByRecursion IsInside (cond t [] (present d e))
inside_factor true d e ld le = tt
inside_factor false d e ld le = (inr refl, (inl (omega arith), (inl ld, inside_raised (eqb e 1) e le)))

inside_factors : (d : ℕ) (es : List ℕ) → 46 ≤ d → AllByRecursion (λ e. e < 256) es → AllByRecursion IsInside (factors_from d es)
inside_factors d [] ld fit = tt
inside_factors d (e ∷ es) ld fit = inside_append (cond (eqb e 0) [] (present d e)) (factors_from (d + 1) es) (inside_factor (eqb e 0) d e ld (omega (arith, fit.0))) (inside_factors (d + 1) es (omega (arith, ld)) fit.1)

front_step : (t : Bool) (d e : ℕ) (rest : List ℕ) (others : Bool) → 46 ≤ d → e < 10 ^ 64 → (t && others) ≡ false → AllByRecursion IsInside rest → (others ≡ false → IsFactors rest)
    → IsFactors (cond t [] (present d e) ++ rest)
front_step true d e rest others ld le some all later = later some
front_step false d e rest others ld le some all later = (refl, refl, (inl ld, inside_append (raised (eqb e 1) e) rest (inside_raised (eqb e 1) e le) all))

factors_front : (d : ℕ) (es : List ℕ) → 46 ≤ d → AllByRecursion (λ e. e < 256) es → list_all (λ e. eqb e 0) es ≡ false → IsFactors (factors_from d es)
factors_front d [] ld fit some = absurd cc
factors_front d (e ∷ es) ld fit some =
    front_step (eqb e 0) d e (factors_from (d + 1) es) (list_all (λ e. eqb e 0) es) ld (omega (arith, fit.0)) some (inside_factors (d + 1) es (omega (arith, ld)) fit.1)
    (λ q. factors_front (d + 1) es (omega (arith, ld)) fit.1 q)

pub starred_front : (m : Exp) → IsMonomial m → is_one m ≡ false → IsFactors (starred m)
starred_front m is some = subst IsFactors (sym (starred_is m is.eight)) (factors_front 49 m.e (omega arith) is.fit some)

pub factors_body : (b : List ℕ) → IsFactors b → IsBody b
factors_body [] f = absurd f
factors_body (star ∷ []) f = absurd f
factors_body (star ∷ c ∷ r) f = (f.0, omega (arith, f.1), f.2)

pub factors_inside : (b : List ℕ) → IsFactors b → AllByRecursion IsInside b
factors_inside [] f = absurd f
factors_inside (star ∷ []) f = absurd f
factors_inside (star ∷ c ∷ r) f = (inr f.0, (inl (omega (arith, f.1)), f.2))

pub factors_is : (b : List ℕ) → IsFactors b → (r : List ℕ) × (b ≡ 42 ∷ 117 ∷ r)
factors_is [] f = absurd f
factors_is (star ∷ []) f = absurd f
factors_is (star ∷ c ∷ r) f = (r, cc (f.0, f.1))

-- ---- the coefficient and the factors of a lump

-- a body without the letter u
abbrev pub IsPlain : List ℕ → Type 0
IsPlain body = AllByRecursion (λ b. b ≡ 117 → ⊥) body

plain_by : (b : ℕ) → not (eqb b 117) ≡ true → b ≡ 117 → ⊥
plain_by b e is = let yes : eqb b 117 ≡ true = ap (λ n. eqb n 117) is in absurd (cc (e, yes))

pub letters_plain : AllByRecursion IsPlain letters
letters_plain = all_from (λ body. list_all (λ b. not (eqb b 117)) body) IsPlain (λ body e. all_from (λ b. not (eqb b 117)) (λ b. b ≡ 117 → ⊥) plain_by body e) letters refl

plain_step : (t : Bool) (q : Frac) (body : List ℕ) (ps : List Piece) → IsPlain body → AllByRecursion (λ p. IsPlain p.1) ps → AllByRecursion (λ p. IsPlain p.1) (cond (not t) ((q, body) ∷ ps) ps)
plain_step true q body ps is all = all
plain_step false q body ps is all = (is, all)

plain_pieces : (qs : List Frac) (bodies : List (List ℕ)) → AllByRecursion IsPlain bodies → AllByRecursion (λ p. IsPlain p.1) (without_zeros (zip qs bodies))
plain_pieces [] bodies all = tt
plain_pieces (q ∷ qs) [] all = tt
plain_pieces (q ∷ qs) (body ∷ bodies) all = plain_step (is_zero_fraction q) q body (without_zeros (zip qs bodies)) all.0 (plain_pieces qs bodies all.1)

-- no piece of an element has the letter u
pub plain_element : (e : Element) → AllByRecursion (λ p. IsPlain p.1) (without_zeros (components e))
plain_element e = plain_pieces (numbers e) letters letters_plain

-- letters and factors are told from the letters with the factors behind them
body_tells : (b c f g : List ℕ) → IsPlain b → IsPlain c → IsFactors f → IsFactors g → b ++ f ≡ c ++ g → (b ≡ c) × (f ≡ g)
body_tells b c f g pb pc ff fg e =
    let r = factors_is f ff in
    let s = factors_is g fg in
    let plain : IsPlain (42 ∷ []) = (λ is. omega (arith, is), tt) in
    let whole : (b ++ 42 ∷ []) ++ 117 ∷ r.0 ≡ (c ++ 42 ∷ []) ++ 117 ∷ s.0 =
    append_assoc b (42 ∷ []) (117 ∷ r.0) ∙ ap (λ (z : List ℕ). b ++ z) (sym r.1) ∙ e ∙ ap (λ (z : List ℕ). c ++ z) s.1 ∙ sym (append_assoc c (42 ∷ []) (117 ∷ s.0)) in
    let h = cut (λ x. x ≡ 117 → ⊥) (λ x. x ≡ 117) (λ x i o. i o) (b ++ 42 ∷ []) (c ++ 42 ∷ []) (117 ∷ r.0) (117 ∷ s.0) (all_append (λ x. x ≡ 117 → ⊥) b (42 ∷ []) pb plain) (all_append (λ x. x ≡ 117 → ⊥) c (42 ∷ []) pc plain) refl refl whole in
    (append_cancel_right b c (42 ∷ []) h.0, r.1 ∙ ap (λ (z : List ℕ). 42 ∷ z) h.1 ∙ sym s.1)

piece_is : (p q : Piece) → p.0 ≡ q.0 → p.1 ≡ q.1 → p ≡ q
piece_is p q a b = λ i. (a i, b i)

bracketed_tells : (e f : Element) (b c : List ℕ) → Bracketed e b ≡ Bracketed f c → (e ≡ f) × (b ≡ c)
bracketed_tells e f b c h = (cc, cc)

simple_tells : (q r : Frac) (b c : List ℕ) → Simple q b ≡ Simple r c → (q ≡ r) × (b ≡ c)
simple_tells q r b c h = (cc, cc)

lumps_same : (ps qs : List Piece) (e f : Element) (b c : List ℕ) → (ps ≡ qs → e ≡ f) → AllByRecursion (λ p. IsPlain p.1) ps → AllByRecursion (λ p. IsPlain p.1) qs → IsFactors b → IsFactors c
    → lump_by ps e b ≡ lump_by qs f c → (e ≡ f) × (b ≡ c)
lumps_same [] [] e f b c tell pp pq fb fc h = bracketed_tells e f b c h
lumps_same [] (q ∷ []) e f b c tell pp pq fb fc h = absurd cc
lumps_same [] (q ∷ r ∷ qs) e f b c tell pp pq fb fc h = bracketed_tells e f b c h
lumps_same (p ∷ []) [] e f b c tell pp pq fb fc h = absurd cc
lumps_same (p ∷ []) (q ∷ []) e f b c tell pp pq fb fc h =
    let same = simple_tells p.0 q.0 (p.1 ++ b) (q.1 ++ c) h in
    let k = body_tells p.1 q.1 b c pp.0 pq.0 fb fc same.1 in
    (tell (ap (λ (z : Piece). z ∷ []) (piece_is p q same.0 k.0)), k.1)
lumps_same (p ∷ []) (q ∷ r ∷ qs) e f b c tell pp pq fb fc h = absurd cc
lumps_same (p ∷ o ∷ ps) [] e f b c tell pp pq fb fc h = bracketed_tells e f b c h
lumps_same (p ∷ o ∷ ps) (q ∷ []) e f b c tell pp pq fb fc h = absurd cc
lumps_same (p ∷ o ∷ ps) (q ∷ r ∷ qs) e f b c tell pp pq fb fc h = bracketed_tells e f b c h

-- ---- terms with factors

abbrev pub lump_of : Term → Lump
lump_of t = lump_by (without_zeros (components t.1)) t.1 (starred t.0)

term_is : (t u : Term) → t.0 ≡ u.0 → t.1 ≡ u.1 → t ≡ u
term_is t u a b = λ i. (a i, b i)

pub lump_tells : (t u : Term) → IsHigher t → IsHigher u → lump_of t ≡ lump_of u → t ≡ u
lump_tells t u ot ou e =
    let same = lumps_same (without_zeros (components t.1)) (without_zeros (components u.1)) t.1 u.1 (starred t.0) (starred u.0) (element_tells t.1 u.1 ot.term.coefficient ou.term.coefficient) (plain_element t.1) (plain_element u.1)
    (starred_front t.0 ot.term.monomial ot.higher) (starred_front u.0 ou.term.monomial ou.higher) e in
    let m = monomial_one t.0 u.0 [] [] ot.term.monomial ou.term.monomial tt tt (ap (λ (z : List ℕ). z ++ []) same.1) in
    term_is t u m.0 same.0

cons_is : {A : Type 0} (x y : A) (xs ys : List A) → x ∷ xs ≡ y ∷ ys → (x ≡ y) × (xs ≡ ys)
cons_is x y xs ys e = (cc, cc)

higher_tell : (ts us : List Term) → AllByRecursion IsHigher ts → AllByRecursion IsHigher us → map lump_of ts ≡ map lump_of us → ts ≡ us
higher_tell [] [] ot ou e = refl
higher_tell [] (u ∷ us) ot ou e = absurd cc
higher_tell (t ∷ ts) [] ot ou e = absurd cc
higher_tell (t ∷ ts) (u ∷ us) ot ou e =
    let h = cons_is (lump_of t) (lump_of u) (map lump_of ts) (map lump_of us) e in
    let first = lump_tells t u ot.0 ou.0 h.0 in
    let others = higher_tell ts us ot.1 ou.1 h.1 in
    cc (first, others)

pub longer_body : (body b : List ℕ) → IsBody body → IsFactors b → IsBody (body ++ b)
longer_body [] b is f = factors_body b f
longer_body (star ∷ []) b is f = absurd is
longer_body (star ∷ c ∷ r) b is f = (is.0, is.1, inside_append r b is.2 (factors_inside b f))

lump_by_is : (ps : List Piece) (e : Element) (b : List ℕ) → AllByRecursion IsPiece ps → IsSmallElement e → IsFactors b → IsLump (lump_by ps e b)
lump_by_is [] e b pieces is f = record { element = is; factors = factors_body b f }
lump_by_is (p ∷ []) e b pieces is f = record { small = pieces.0.small; nonzero = pieces.0.nonzero; factors = longer_body p.1 b pieces.0.body f }
lump_by_is (p ∷ q ∷ ps) e b pieces is f = record { element = is; factors = factors_body b f }

pub higher_lump : (t : Term) → IsHigher t → IsLump (lump_of t)
higher_lump t is =
    lump_by_is (without_zeros (components t.1)) t.1 (starred t.0) (element_pieces t.1 is.term.coefficient) is.term.coefficient (starred_front t.0 is.term.monomial is.higher)

-- ---- polynomials without a constant term

term_by : (t : Bool) (c s : List ℕ) → t ≡ false → cond t c s ≡ s
term_by true c s e = absurd cc
term_by false c s e = refl

pub higher_text : (t : Term) → IsHigher t → term_in new_names t ≡ lump_text (lump_of t)
unfolding term_in
higher_text t is =
    term_by (is_one t.0) (components_text t.1) (signed_text (scaled_text t.1 (starred t.0))) is.higher
    ∙ scaled_is t.1 (starred t.0)

higher_texts : (ts : List Term) → AllByRecursion IsHigher ts → flat_map (term_in new_names) ts ≡ flat_map lump_text (map lump_of ts)
higher_texts [] is = refl
higher_texts (t ∷ ts) is = ap (λ (z : List ℕ). z ++ flat_map (term_in new_names) ts) (higher_text t is.0) ∙ ap (λ (z : List ℕ). lump_text (lump_of t) ++ z) (higher_texts ts is.1)

higher_lumps : (ts : List Term) → AllByRecursion IsHigher ts → AllByRecursion IsLump (map lump_of ts)
higher_lumps [] is = tt
higher_lumps (t ∷ ts) is = (higher_lump t is.0, higher_lumps ts is.1)

-- ---- a constant term first

abbrev simple : Piece → Lump
simple p = Simple p.0 p.1

abbrev first_lumps : Bool → Term → List Lump
first_lumps one t = cond one (map simple (without_zeros (components t.1))) (lump_of t ∷ [])

abbrev lumps_all : List Term → List Lump
lumps_all [] = []
lumps_all (t ∷ ts) = first_lumps (is_one t.0) t ++ map lump_of ts

-- one piece without the letter u, as of a constant term
abbrev pub IsInner : Lump → Type 0
IsInner (Simple q body) = IsPlain body
IsInner (Bracketed e body) = ⊥

abbrev pub IsOuter : Lump → Type 0
IsOuter l = IsInner l → ⊥

cut_lumps : (a b x y : List Lump) → AllByRecursion IsInner a → AllByRecursion IsInner b → AllByRecursion IsOuter x → AllByRecursion IsOuter y → a ++ x ≡ b ++ y → (a ≡ b) × (x ≡ y)
cut_lumps [] [] x y ia ib ox oy e = (refl, e)
cut_lumps [] (b ∷ bs) [] y ia ib ox oy e = absurd cc
cut_lumps [] (b ∷ bs) (c ∷ cs) y ia ib ox oy e = absurd (ox.0 (subst IsInner (sym (cons_is c b cs (bs ++ y) e).0) ib.0))
cut_lumps (a ∷ more) [] x [] ia ib ox oy e = absurd cc
cut_lumps (a ∷ more) [] x (c ∷ cs) ia ib ox oy e = absurd (oy.0 (subst IsInner (cons_is a c (more ++ x) cs e).0 ia.0))
cut_lumps (a ∷ more) (b ∷ bs) x y ia ib ox oy e =
    let h = cons_is a b (more ++ x) (bs ++ y) e in
    let r = cut_lumps more bs x y ia.1 ib.1 ox oy h.1 in
    (cc (h.0, r.0), r.1)

inner_pieces : (ps : List Piece) → AllByRecursion (λ p. IsPlain p.1) ps → AllByRecursion IsInner (map simple ps)
inner_pieces [] all = tt
inner_pieces (p ∷ ps) all = (all.0, inner_pieces ps all.1)

inner : (e : Element) → AllByRecursion IsInner (map simple (without_zeros (components e)))
inner e = inner_pieces (without_zeros (components e)) (plain_element e)

simple_nil : (ps : List Piece) → map simple ps ≡ [] → ps ≡ []
simple_nil [] e = refl
simple_nil (p ∷ ps) e = absurd cc

with_factors : (body b : List ℕ) → IsFactors b → IsPlain (body ++ b) → ⊥
with_factors [] [] f is = f
with_factors [] (star ∷ []) f is = f
with_factors [] (star ∷ c ∷ r) f is = is.1.0 f.1
with_factors (x ∷ body) b f is = with_factors body b f is.1

outer_by : (ps : List Piece) (e : Element) (b : List ℕ) → IsFactors b → IsOuter (lump_by ps e b)
outer_by [] e b f is = is
outer_by (p ∷ []) e b f is = with_factors p.1 b f is
outer_by (p ∷ q ∷ ps) e b f is = is

pub outer : (t : Term) → IsHigher t → IsOuter (lump_of t)
outer t is = outer_by (without_zeros (components t.1)) t.1 (starred t.0) (starred_front t.0 is.term.monomial is.higher)

all_outer : (ts : List Term) → AllByRecursion IsHigher ts → AllByRecursion IsOuter (map lump_of ts)
all_outer [] is = tt
all_outer (t ∷ ts) is = (outer t is.0, all_outer ts is.1)

both : (a b : Bool) → (a && b) ≡ true → (a ≡ true) × (b ≡ true)
both true b e = (refl, e)
both false b e = absurd cc

unsimple : (ps qs : List Piece) → map simple ps ≡ map simple qs → ps ≡ qs
unsimple [] [] e = refl
unsimple [] (q ∷ qs) e = absurd cc
unsimple (p ∷ ps) [] e = absurd cc
unsimple (p ∷ ps) (q ∷ qs) e =
    let h = cons_is (simple p) (simple q) (map simple ps) (map simple qs) e in
    let same = simple_tells p.0 q.0 p.1 q.1 h.0 in
    let first : p ≡ q = piece_is p q same.0 same.1 in
    let others = unsimple ps qs h.1 in
    cc (first, others)

pub zeros_same : (es fs : List ℕ) → length es ≡ length fs → list_all (λ e. eqb e 0) es ≡ true → list_all (λ e. eqb e 0) fs ≡ true → es ≡ fs
zeros_same [] [] len a b = refl
zeros_same [] (f ∷ fs) len a b = absurd (omega (arith, len))
zeros_same (e ∷ es) [] len a b = absurd (omega (arith, len))
zeros_same (e ∷ es) (f ∷ fs) len a b =
    let p = both (eqb e 0) (list_all (λ e. eqb e 0) es) a in
    let q = both (eqb f 0) (list_all (λ e. eqb e 0) fs) b in
    let first : e ≡ f = eqb-true e 0 p.0 ∙ sym (eqb-true f 0 q.0) in
    let others = zeros_same es fs (omega (arith, len)) p.1 q.1 in
    cc (first, others)

first_tells : (a b : Bool) (t u : Term) (ts us : List Term) → is_one t.0 ≡ a → is_one u.0 ≡ b → IsTerm t → IsTerm u → AllByRecursion IsHigher ts → AllByRecursion IsHigher us
    → first_lumps a t ++ map lump_of ts ≡ first_lumps b u ++ map lump_of us → t ∷ ts ≡ u ∷ us
first_tells true true t u ts us at au ot ou hs is e =
    let h = cut_lumps (map simple (without_zeros (components t.1))) (map simple (without_zeros (components u.1))) (map lump_of ts) (map lump_of us) (inner t.1) (inner u.1) (all_outer ts hs) (all_outer us is) e in
    let c = element_tells t.1 u.1 ot.coefficient ou.coefficient (unsimple (without_zeros (components t.1)) (without_zeros (components u.1)) h.0) in
    let m = zeros_same t.0.e u.0.e (ot.monomial.eight ∙ sym ou.monomial.eight) at au in
    let first = term_is t u (exponents_is t.0 u.0 m) c in
    let others = higher_tell ts us hs is h.1 in
    cc (first, others)
first_tells true false t u ts us at au ot ou hs is e =
    let high : IsHigher u = record { term = ou; higher = au } in
    let h = cut_lumps (map simple (without_zeros (components t.1))) [] (map lump_of ts) (lump_of u ∷ map lump_of us) (inner t.1) tt (all_outer ts hs) (outer u high, all_outer us is) e in
    absurd (ot.some (simple_nil (without_zeros (components t.1)) h.0))
first_tells false true t u ts us at au ot ou hs is e =
    let high : IsHigher t = record { term = ot; higher = at } in
    let h = cut_lumps (map simple (without_zeros (components u.1))) [] (map lump_of us) (lump_of t ∷ map lump_of ts) (inner u.1) tt (all_outer us is) (outer t high, all_outer ts hs) (sym e) in
    absurd (ou.some (simple_nil (without_zeros (components u.1)) h.0))
first_tells false false t u ts us at au ot ou hs is e =
    higher_tell (t ∷ ts) (u ∷ us) (record { term = ot; higher = at }, hs) (record { term = ou; higher = au }, is) e

front_nil : (xs ys : List Lump) → xs ++ ys ≡ [] → xs ≡ []
front_nil [] ys e = refl
front_nil (x ∷ xs) ys e = absurd cc

none_first : (a : Bool) (t : Term) (l : List Lump) → IsTerm t → first_lumps a t ++ l ≡ [] → ⊥
none_first true t l is e = is.some (simple_nil (without_zeros (components t.1)) (front_nil (map simple (without_zeros (components t.1))) l e))
none_first false t l is e = cc

lumps_tell : (ts us : List Term) → IsPolynomial ts → IsPolynomial us → lumps_all ts ≡ lumps_all us → ts ≡ us
lumps_tell [] [] ot ou e = refl
lumps_tell [] (u ∷ us) ot ou e = absurd (none_first (is_one u.0) u (map lump_of us) ou.0 (sym e))
lumps_tell (t ∷ ts) [] ot ou e = absurd (none_first (is_one t.0) t (map lump_of ts) ot.0 e)
lumps_tell (t ∷ ts) (u ∷ us) ot ou e = first_tells (is_one t.0) (is_one u.0) t u ts us refl refl ot.0 ou.0 ot.1 ou.1 e

simple_texts : (ps : List Piece) → flat_map piece_text ps ≡ flat_map lump_text (map simple ps)
simple_texts [] = refl
simple_texts (p ∷ ps) = ap (λ (z : List ℕ). piece_text p ++ z) (simple_texts ps)

simple_are : (ps : List Piece) → AllByRecursion IsPiece ps → AllByRecursion IsLump (map simple ps)
simple_are [] is = tt
simple_are (p ∷ ps) is = (record { small = is.0.small; nonzero = is.0.nonzero; factors = is.0.body }, simple_are ps is.1)

lumps_append : (xs ys : List Lump) → AllByRecursion IsLump xs → AllByRecursion IsLump ys → AllByRecursion IsLump (xs ++ ys)
lumps_append [] ys p q = q
lumps_append (x ∷ xs) ys p q = (p.0, lumps_append xs ys p.1 q)

first_are : (a : Bool) (t : Term) → is_one t.0 ≡ a → IsTerm t → AllByRecursion IsLump (first_lumps a t)
first_are true t at is = simple_are (without_zeros (components t.1)) (element_pieces t.1 is.coefficient)
first_are false t at is = (higher_lump t (record { term = is; higher = at }), tt)

lumps_are : (ts : List Term) → IsPolynomial ts → AllByRecursion IsLump (lumps_all ts)
lumps_are [] is = tt
lumps_are (t ∷ ts) is = lumps_append (first_lumps (is_one t.0) t) (map lump_of ts) (first_are (is_one t.0) t refl is.0) (higher_lumps ts is.1)

first_text : (a : Bool) (t : Term) → is_one t.0 ≡ a → IsTerm t → term_in new_names t ≡ flat_map lump_text (first_lumps a t)
unfolding term_in
first_text true t at is = ap (λ (z : Bool). cond z (components_text t.1) (signed_text (scaled_text t.1 (starred t.0)))) at ∙ components_are t.1 ∙ simple_texts (without_zeros (components t.1))
first_text false t at is = higher_text t (record { term = is; higher = at }) ∙ sym (append-nil (lump_text (lump_of t)))

texts_are : (ts : List Term) → IsPolynomial ts → flat_map (term_in new_names) ts ≡ flat_map lump_text (lumps_all ts)
texts_are [] is = refl
texts_are (t ∷ ts) is =
    ap (λ (z : List ℕ). z ++ flat_map (term_in new_names) ts) (first_text (is_one t.0) t refl is.0)
    ∙ ap (λ (z : List ℕ). flat_map lump_text (first_lumps (is_one t.0) t) ++ z) (higher_texts ts is.1)
    ∙ sym (flat_map-append lump_text (first_lumps (is_one t.0) t) (map lump_of ts))

-- a polynomial is told from its text
pub polynomial_one : (ts us : List Term) (x y : List ℕ) → IsPolynomial ts → IsPolynomial us → Starts EndsSum x → Starts EndsSum y
    → without_plus (flat_map (term_in new_names) ts) ++ x ≡ without_plus (flat_map (term_in new_names) us) ++ y → (ts ≡ us) × (x ≡ y)
polynomial_one ts us x y ot ou sx sy e =
    let h = lump_sum_one (lumps_all ts) (lumps_all us) x y (lumps_are ts ot) (lumps_are us ou) sx sy
    (ap (λ (z : List ℕ). without_plus z ++ x) (sym (texts_are ts ot)) ∙ e ∙ ap (λ (z : List ℕ). without_plus z ++ y) (texts_are us ou)) in
    (lumps_tell ts us ot ou h.0, h.1)
