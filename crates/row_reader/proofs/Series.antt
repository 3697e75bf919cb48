-- Items read one after the other from a line.
use Rattle.std.proofs.Common.{◌≡◌, ℕ, suc, ◌+◌, List, [], ◌∷◌, ◌++◌, length, refl, sym, ap, ◌∙◌, subst, append_assoc, append-nil, length-append, arith, ◌<◌}
use Rattle.std.specs.List.{AllByRecursion}
use Rattle.row_reader.specs.Words.{IsRest}
use Rattle.jet_poly.proofs.Output.{all-push}

-- the texts of items, each by its number
abbrev pub series : {A : Type 0} → (ℕ → A → List ℕ) → ℕ → List A → List ℕ
series piece i [] = []
series piece i (x ∷ xs) = piece i x ++ series piece (suc i) xs

series-append : {A : Type 0} (piece : ℕ → A → List ℕ) (i : ℕ) (xs ys : List A) → series piece i (xs ++ ys) ≡ series piece i xs ++ series piece (i + length xs) ys
series-append piece i [] ys = let same : i ≡ i + 0 = omega arith in ap (λ (k : ℕ). series piece k ys) same
series-append piece i (x ∷ xs) ys =
    let same : suc i + length xs ≡ i + suc (length xs) = omega arith in
    ap (λ z. piece i x ++ z) (series-append piece (suc i) xs ys ∙ ap (λ (k : ℕ). series piece (suc i) xs ++ series piece k ys) same) ∙ sym (append_assoc (piece i x) (series piece (suc i) xs) (series piece (i + suc (length xs)) ys))

-- a space at the front
abbrev pub Begins : List ℕ → Type 0
Begins [] = ⊥
Begins (b ∷ bs) = b ≡ 32

series_rest : {A : Type 0} (piece : ℕ → A → List ℕ) → ((i : ℕ) (v : A) → Begins (piece i v)) → (i : ℕ) (zs : List A) (y : List ℕ) → IsRest y → IsRest (series piece i zs ++ y)
series_rest piece begins i [] y h = h
series_rest piece begins i (z ∷ zs) y h = regroup (piece i z) (series piece (suc i) zs) (begins i z)
  where
    regroup : (f g : List ℕ) → Begins f → IsRest ((f ++ g) ++ y)
    regroup [] g h = absurd h
    regroup (b ∷ bs) g h = h

-- what is left of items behind those that were read
pub record Left {A : Type 0} (valid : A → Type 0) (piece : ℕ → A → List ℕ) (xs : List A) (left : List ℕ) (ys : List A) (y : List ℕ) (zs : List A) : Type 0 where
  pub is : ys ≡ xs ++ zs
  pub text : left ≡ series piece (length xs) zs ++ y
  pub each : AllByRecursion valid zs

-- these items were read, and any that make up a whole line begin with them
pub record IsReadTo {A : Type 0} (valid : A → Type 0) (piece : ℕ → A → List ℕ) (Whole : List A → List ℕ → Type 0) (all : List ℕ) (xs : List A) (left : List ℕ) : Type 0 where
  pub each : AllByRecursion valid xs
  pub sound : all ≡ series piece 0 xs ++ left
  pub complete : (ys : List A) (y : List ℕ) → AllByRecursion valid ys → Whole ys y → all ≡ series piece 0 ys ++ y → (zs : List A) × Left valid piece xs left ys y zs

-- the one item that stands at the front
pub record IsItem {A : Type 0} (valid : A → Type 0) (piece : ℕ → A → List ℕ) (i : ℕ) (left : List ℕ) (x : A) (rest : List ℕ) : Type 0 where
  pub item : valid x
  pub text : left ≡ piece i x ++ rest
  pub only : (v : A) (y : List ℕ) → valid v → IsRest y → left ≡ piece i v ++ y → (v ≡ x) × (y ≡ rest)

-- what a whole line is: it ends where words end, and its items begin with spaces
pub record IsLine {A : Type 0} (piece : ℕ → A → List ℕ) (Whole : List A → List ℕ → Type 0) : Type 0 where
  pub ends : (ys : List A) (y : List ℕ) → Whole ys y → IsRest y
  pub begins : (i : ℕ) (v : A) → Begins (piece i v)

pub read_start : {A : Type 0} (valid : A → Type 0) (piece : ℕ → A → List ℕ) (Whole : List A → List ℕ → Type 0) (all : List ℕ) → IsReadTo valid piece Whole all [] all
read_start valid piece Whole all = record { each = tt; sound = refl; complete = λ ys y each whole e. (ys, record { is = refl; text = e; each = each }) }

-- of so many items no fewer were read, and no more
pub too_few : {A : Type 0} (count i : ℕ) (xs ys : List A) → length xs ≡ i → i < count → length ys ≡ count → ys ≡ xs → ⊥
too_few count i xs ys len lt long same = let a = ap length same in omega (arith, a, long, len, lt)

pub no_more : {A : Type 0} (count : ℕ) (xs zs : List A) → length xs ≡ count → length (xs ++ zs) ≡ count → zs ≡ []
no_more count xs [] len long = refl
no_more count xs (z ∷ zs) len long = let a = length-append xs (z ∷ zs) in absurd (omega (arith, a, long, len))

module _ {A : Type 0} (valid : A → Type 0) (piece : ℕ → A → List ℕ) (Whole : List A → List ℕ → Type 0) (line : IsLine piece Whole) (all : List ℕ) (xs : List A) (left : List ℕ) (up : IsReadTo valid piece Whole all xs left) where
  more_text : (x : A) (rest : List ℕ) → left ≡ piece (length xs) x ++ rest → all ≡ series piece 0 (xs ++ x ∷ []) ++ rest
  more_text x rest e =
      let same : length xs ≡ 0 + length xs = omega arith in
      let one : piece (length xs) x ≡ series piece (0 + length xs) (x ∷ []) = ap (λ (k : ℕ). piece k x) same ∙ sym (append-nil (piece (0 + length xs) x)) in
      up.sound ∙ ap (λ z. series piece 0 xs ++ z) (e ∙ ap (λ z. z ++ rest) one) ∙ sym (append_assoc (series piece 0 xs) (series piece (0 + length xs) (x ∷ [])) rest) ∙ ap (λ z. z ++ rest) (sym (series-append piece 0 xs (x ∷ [])))

  next_left : (x : A) (rest : List ℕ) → IsItem valid piece (length xs) left x rest → (ys : List A) (y : List ℕ) → IsRest y → (ys ≡ xs → left ≡ y → ⊥) → (zs : List A) → Left valid piece xs left ys y zs → (us : List A) × Left valid piece (xs ++ x ∷ []) rest ys y us
  next_left x rest item ys y rest_y some [] l = absurd (some (l.is ∙ append-nil xs) l.text)
  next_left x rest item ys y rest_y some (v ∷ vs) l =
      let k = item.only v (series piece (suc (length xs)) vs ++ y) l.each.0 (series_rest piece line.begins (suc (length xs)) vs y rest_y) (l.text ∙ append_assoc (piece (length xs) v) (series piece (suc (length xs)) vs) y) in
      let longer : suc (length xs) ≡ length (xs ++ x ∷ []) = omega (arith, length-append xs (x ∷ [])) in
      (vs, record { is = l.is ∙ ap (λ (v : A). xs ++ v ∷ vs) k.0 ∙ sym (append_assoc xs (x ∷ []) vs); text = sym k.1 ∙ ap (λ (k : ℕ). series piece k vs ++ y) longer; each = l.each.1 })

  -- one more item
  pub read_more : (x : A) (rest : List ℕ) → IsItem valid piece (length xs) left x rest → ((ys : List A) (y : List ℕ) → Whole ys y → ys ≡ xs → left ≡ y → ⊥) → IsReadTo valid piece Whole all (xs ++ x ∷ []) rest
  read_more x rest item some = record {
    each = all-push valid xs x up.each item.item;
    sound = more_text x rest item.text;
    complete = λ ys y each whole e. (let k = up.complete ys y each whole e in next_left x rest item ys y (line.ends ys y whole) (some ys y whole) k.0 k.1);
  }

  -- no item stands there
  pub read_stuck : ((v : A) (y : List ℕ) → valid v → IsRest y → left ≡ piece (length xs) v ++ y → ⊥) → ((ys : List A) (y : List ℕ) → Whole ys y → ys ≡ xs → left ≡ y → ⊥) → (ys : List A) (y : List ℕ) → AllByRecursion valid ys → Whole ys y → all ≡ series piece 0 ys ++ y → ⊥
  read_stuck none some ys y each whole e = let k = up.complete ys y each whole e in by_left k.0 k.1
    where
      by_left : (zs : List A) → Left valid piece xs left ys y zs → ⊥
      by_left [] l = some ys y whole (l.is ∙ append-nil xs) l.text
      by_left (v ∷ vs) l =
          none v (series piece (suc (length xs)) vs ++ y) l.each.0 (series_rest piece line.begins (suc (length xs)) vs y (line.ends ys y whole)) (l.text ∙ append_assoc (piece (length xs) v) (series piece (suc (length xs)) vs) y)

  -- the items are all there are
  pub read_done : ((zs : List A) (y : List ℕ) → Whole (xs ++ zs) y → left ≡ series piece (length xs) zs ++ y → zs ≡ []) → (ys : List A) (y : List ℕ) → AllByRecursion valid ys → Whole ys y → all ≡ series piece 0 ys ++ y → (xs ≡ ys) × (left ≡ y)
  read_done over ys y each whole e =
      let k = up.complete ys y each whole e in
      let none : k.0 ≡ [] = over k.0 y (subst (λ (zs : List A). Whole zs y) k.1.is whole) k.1.text in
      (sym (k.1.is ∙ ap (λ (zs : List A). xs ++ zs) none ∙ append-nil xs), k.1.text ∙ ap (λ (zs : List A). series piece (length xs) zs ++ y) none)
