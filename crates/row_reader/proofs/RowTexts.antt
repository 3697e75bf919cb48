-- Rows with multipliers by their texts.
use Rattle.std.proofs.Common.{◌≡◌, ◌≢◌, ℕ, zero, suc, ◌<◌, Bool, true, false, Option, Some, None, List, [], ◌∷◌, ◌++◌, length, refl, sym, ap, ◌∙◌, subst, append_assoc, append-nil}
use Rattle.std.specs.Prelude.{codes, is_some, IfSome}
use Rattle.std.specs.Borrow.{Bor}
use Rattle.std.specs.List.{flat_map}
use Rattle.ring_law.specs.declared.fraction.Frac.{Frac}
use Rattle.ext_algebra.specs.declared.algebra.Algebra.{Algebra}
use Rattle.ext_algebra.specs.declared.algebra.Ext.{Ext}
use Rattle.mono_exp.specs.declared.exponent.Exp.{Exp}
use Rattle.jet_poly.specs.JetTerms.{JetTerms}
use Rattle.determinacy.specs.declared.row.MatherRow.{MatherRow}
use Rattle.milnor_alg.specs.declared.quotient.TableRow.{TableRow}
use Rattle.poly_text.specs.declared.name.Name.{Name}
use Rattle.poly_text.specs.Polynomials.{jet_text, monomial_text, name_text, polynomial_in}
use Rattle.cert_text.specs.Text.{multipliers_text, values_text, part_inside, mather_inside, table_inside}
use Rattle.cert_text.specs.WellFormed.{IsJetOf, has_no_constant, AreJetsOf, IsRowOf, IsTableRowOf}
use Rattle.cert_law.proofs.Cut.{cut, head, same_front}
use Rattle.cert_law.proofs.Jets.{polynomial_one}
use Rattle.cert_law.proofs.Valid.{polynomial_by}
use Rattle.text_reader.proofs.VisibleTexts.{visible-jet, visible-name}
use Rattle.row_reader.specs.Rows.{IsNamedPart}
use Rattle.row_reader.specs.Values.{AreElements, IsResidual}
use Rattle.row_reader.specs.Words.{after_space, IsRest, lead}
use Rattle.row_reader.proofs.Series.{Begins, IsLine, IsReadTo, read_done, read_more, read_start, read_stuck, series, too_few, no_more}
use Rattle.row_reader.proofs.WordTexts.{IsWord, mark_one, monomial_one, rest_of, something_left, visible_word, word_is}

abbrev Jet : Type 0
Jet = JetTerms (Ext Frac)

-- ---- one multiplier

abbrev Taken : Type 0
Taken = Option (Bor (List ℕ) × Option (Bor (List ℕ)))

lead_other : (i : ℕ) → (i ≡ 0 → ⊥) → lead i ≡ 32 ∷ 59 ∷ 32 ∷ []
lead_other zero h = absurd (h refl)
lead_other (suc i) h = refl

pub first_some : (i : ℕ) (sum : List ℕ) (r : Taken) → i ≡ 0 → IfSome r (λ r. (sum ≡ 32 ∷ (r.0.now ++ after_space r.1)) × IsWord r.0.now) → IfSome r (λ r. (sum ≡ lead i ++ (r.0.now ++ after_space r.1)) × IsWord r.0.now)
first_some i sum None e h = tt
first_some i sum (Some r) e h = (h.0 ∙ ap (λ (k : ℕ). lead k ++ (r.0.now ++ after_space r.1)) (sym e), h.1)

pub first_none : (i : ℕ) (sum z : List ℕ) → i ≡ 0 → sum ≡ [] → sum ≡ lead i ++ z → ⊥
first_none i sum z e none h = let k = h ∙ ap (λ (k : ℕ). lead k ++ z) e in absurd cc

pub later_some : (i : ℕ) (sum : List ℕ) (behind : Option (Bor (List ℕ))) (r : Taken) → (i ≡ 0 → ⊥) → sum ≡ 32 ∷ ((59 ∷ []) ++ after_space behind) → IfSome r (λ r. (after_space behind ≡ 32 ∷ (r.0.now ++ after_space r.1)) × IsWord r.0.now)
    → IfSome r (λ r. (sum ≡ lead i ++ (r.0.now ++ after_space r.1)) × IsWord r.0.now)
later_some i sum behind None other split h = tt
later_some i sum behind (Some r) other split h = (split ∙ ap (λ z. 32 ∷ 59 ∷ z) h.0 ∙ ap (λ z. z ++ (r.0.now ++ after_space r.1)) (sym (lead_other i other)), h.1)

pub later_text : (i : ℕ) (sum z : List ℕ) → (i ≡ 0 → ⊥) → sum ≡ lead i ++ z → sum ≡ 32 ∷ ((59 ∷ []) ++ (32 ∷ z))
later_text i sum z other e = e ∙ ap (λ f. f ++ z) (lead_other i other)

pub later_none : (i : ℕ) (sum z : List ℕ) (behind : Option (Bor (List ℕ))) → (i ≡ 0 → ⊥) → sum ≡ 32 ∷ ((59 ∷ []) ++ after_space behind) → after_space behind ≡ [] → sum ≡ lead i ++ z → ⊥
later_none i sum z behind other split none e = let k = mark_one (59 ∷ []) (32 ∷ z) behind sum (later_text i sum z other e) split in absurd cc

-- ---- polynomials

pub word_jet : (n order : ℕ) (a : Algebra) (f : Jet) → order < 256 → IsJetOf n order a f → IsWord (jet_text f)
word_jet n order a f lt is = visible_word (jet_text f) (visible-jet n order a f lt is)

jet_is : (f g : Jet) → f.n ≡ g.n → f.order ≡ g.order → f.terms ≡ g.terms → f ≡ g
jet_is f g a b c = λ i. record { n = a i; order = b i; terms = c i }

-- two jets of one text are one
pub jet_same : (n order : ℕ) (a : Algebra) (f g : Jet) → order < 256 → IsJetOf n order a f → IsJetOf n order a g → jet_text f ≡ jet_text g → f ≡ g
unfolding polynomial_in
jet_same n order a f g lt hf hg e =
    let h = polynomial_one f.terms g.terms [] [] (polynomial_by n order a f lt hf) (polynomial_by n order a g lt hg) tt tt (ap (λ z. z ++ []) e) in
    jet_is f g (hf.variables ∙ sym hg.variables) (hf.order_is ∙ sym hg.order_is) h.0

-- ---- the multipliers of a row

abbrev pub multiplier_piece : ℕ → Jet → List ℕ
multiplier_piece i f = lead i ++ jet_text f

-- so many, and nothing behind them
pub record AreAll (count : ℕ) (fs : List Jet) (y : List ℕ) : Type 0 where
  pub long : length fs ≡ count
  pub last : y ≡ []

lead_begins : (i : ℕ) (z : List ℕ) → Begins (lead i ++ z)
lead_begins zero z = refl
lead_begins (suc i) z = refl

multiplier_line : (count : ℕ) → IsLine multiplier_piece (AreAll count)
multiplier_line count = record { ends = λ ys y w. subst IsRest (sym w.last) tt; begins = λ i v. lead_begins i (jet_text v) }

others_series : (i : ℕ) (fs : List Jet) → flat_map (λ g. codes " ; " ++ jet_text g) fs ≡ series multiplier_piece (suc i) fs
others_series i [] = refl
others_series i (f ∷ fs) = ap (λ z. (codes " ; " ++ jet_text f) ++ z) (others_series (suc i) fs)

multipliers_series : (fs : List Jet) → multipliers_text fs ≡ series multiplier_piece 0 fs
unfolding multipliers_text
multipliers_series [] = refl
multipliers_series (f ∷ fs) = ap (λ z. (32 ∷ jet_text f) ++ z) (others_series 0 fs)

-- multipliers that were read up to what is left
abbrev pub AreMultipliersTo : Algebra → ℕ → ℕ → List ℕ → List Jet → List ℕ → Type 0
AreMultipliersTo a corank order all fs left = IsReadTo (IsJetOf corank order a) multiplier_piece (AreAll corank) all fs left

pub multipliers_start : (a : Algebra) (corank order : ℕ) (all : List ℕ) → AreMultipliersTo a corank order all [] all
multipliers_start a corank order all = read_start (IsJetOf corank order a) multiplier_piece (AreAll corank) all

-- the multiplier that stands at the front
pub multiplier_front : (a : Algebra) (corank order i : ℕ) (g : Jet) (word y left : List ℕ) (behind : Option (Bor (List ℕ))) → order < 256 → left ≡ lead i ++ (word ++ after_space behind) → IsWord word → IsJetOf corank order a g → IsRest y → left ≡ multiplier_piece i g ++ y
    → (jet_text g ≡ word) × (y ≡ after_space behind)
multiplier_front a corank order i g word y left behind lt split hw is ry e =
    let k = same_front (lead i) (jet_text g ++ y) (word ++ after_space behind) (sym (append_assoc (lead i) (jet_text g) y) ∙ sym e ∙ split) in
    cut (λ b. b ≢ 32) (λ b. b ≡ 32) (λ b i o. i o) (jet_text g) word y (after_space behind) (word_jet corank order a g lt is) hw ry (rest_of behind) k

pub multipliers_more : (a : Algebra) (corank order i : ℕ) (all left : List ℕ) (fs : List Jet) (f : Jet) (word : List ℕ) (behind : Option (Bor (List ℕ))) → order < 256 → AreMultipliersTo a corank order all fs left → length fs ≡ i → i < corank → left ≡ lead i ++ (word ++ after_space behind) → IsWord word
    → IsJetOf corank order a f → jet_text f ≡ word → AreMultipliersTo a corank order all (fs ++ f ∷ []) (after_space behind)
multipliers_more a corank order i all left fs f word behind small up len lt split hw is text =
    let here : left ≡ lead (length fs) ++ (word ++ after_space behind) = split ∙ ap (λ (k : ℕ). lead k ++ (word ++ after_space behind)) (sym len) in
    read_more (IsJetOf corank order a) multiplier_piece (AreAll corank) (multiplier_line corank) all fs left up f (after_space behind)
    (record {
      item = is;
      text = here ∙ ap (λ z. lead (length fs) ++ (z ++ after_space behind)) (sym text) ∙ sym (append_assoc (lead (length fs)) (jet_text f) (after_space behind));
      only = λ g y hg ry e. (let k = multiplier_front a corank order (length fs) g word y left behind small here hw hg ry e in (jet_same corank order a g f small hg is (k.0 ∙ sym text), k.1));
    })
    (λ ys y w same h. too_few corank i fs ys len lt w.long same)

multipliers_stuck : (a : Algebra) (corank order i : ℕ) (all left : List ℕ) (fs : List Jet) → AreMultipliersTo a corank order all fs left → length fs ≡ i → i < corank → ((g : Jet) (y : List ℕ) → IsJetOf corank order a g → IsRest y → left ≡ multiplier_piece i g ++ y → ⊥)
    → (gs : List Jet) → AreJetsOf a corank order gs → all ≡ multipliers_text gs → ⊥
multipliers_stuck a corank order i all left fs up len lt none gs valid e =
    read_stuck (IsJetOf corank order a) multiplier_piece (AreAll corank) (multiplier_line corank) all fs left up (λ g y hg ry h. none g y hg ry (h ∙ ap (λ (k : ℕ). multiplier_piece k g ++ y) len))
    (λ ys y w same h. too_few corank i fs ys len lt w.long same) gs [] valid.each (record { long = valid.count; last = refl }) (e ∙ multipliers_series gs ∙ sym (append-nil (series multiplier_piece 0 gs)))

-- no word stands there
pub multiplier_missing : (a : Algebra) (corank order i : ℕ) (all left : List ℕ) (fs : List Jet) → order < 256 → AreMultipliersTo a corank order all fs left → length fs ≡ i → i < corank → ((x y : List ℕ) → IsWord x → IsRest y → left ≡ lead i ++ (x ++ y) → ⊥) → (gs : List Jet) → AreJetsOf a corank order gs → all ≡ multipliers_text gs → ⊥
multiplier_missing a corank order i all left fs small up len lt none gs valid e =
    multipliers_stuck a corank order i all left fs up len lt (λ g y hg ry h. none (jet_text g) y (word_jet corank order a g small hg) ry (h ∙ append_assoc (lead i) (jet_text g) y)) gs valid e

-- the word is no polynomial
pub multiplier_refused : (a : Algebra) (corank order i : ℕ) (all left : List ℕ) (fs : List Jet) (word : List ℕ) (behind : Option (Bor (List ℕ))) → order < 256 → AreMultipliersTo a corank order all fs left → length fs ≡ i → i < corank → left ≡ lead i ++ (word ++ after_space behind) → IsWord word
    → ((g : Jet) → IsJetOf corank order a g → jet_text g ≡ word → ⊥) → (gs : List Jet) → AreJetsOf a corank order gs → all ≡ multipliers_text gs → ⊥
multiplier_refused a corank order i all left fs word behind small up len lt split hw none gs valid e =
    multipliers_stuck a corank order i all left fs up len lt (λ g y hg ry h. none g hg (multiplier_front a corank order i g word y left behind small split hw hg ry h).0) gs valid e

-- something is left behind the last
pub multipliers_over : (a : Algebra) (corank order : ℕ) (all : List ℕ) (fs : List Jet) (left : Option (Bor (List ℕ))) → AreMultipliersTo a corank order all fs (after_space left) → length fs ≡ corank → is_some left ≡ true → (gs : List Jet) → AreJetsOf a corank order gs → all ≡ multipliers_text gs → ⊥
multipliers_over a corank order all fs left up len some gs valid e =
    something_left left some
    (read_done (IsJetOf corank order a) multiplier_piece (AreAll corank) (multiplier_line corank) all fs (after_space left) up (λ zs y w h. no_more corank fs zs len w.long) gs [] valid.each (record { long = valid.count; last = refl })
    (e ∙ multipliers_series gs ∙ sym (append-nil (series multiplier_piece 0 gs)))).1

pub multipliers_found : (a : Algebra) (corank order : ℕ) (all left : List ℕ) (fs : List Jet) → AreMultipliersTo a corank order all fs left → length fs ≡ corank → left ≡ [] → AreJetsOf a corank order fs × (all ≡ multipliers_text fs)
multipliers_found a corank order all left fs up len none =
    (record { count = len; each = up.each }, up.sound ∙ ap (λ z. series multiplier_piece 0 fs ++ z) none ∙ append-nil (series multiplier_piece 0 fs) ∙ sym (multipliers_series fs))

pub multipliers_rest : (fs : List Jet) → IsRest (multipliers_text fs)
unfolding multipliers_text
multipliers_rest [] = tt
multipliers_rest (f ∷ fs) = refl

-- ---- rows of Mather's condition

mather_line : (row : MatherRow (Ext Frac)) (bytes : List ℕ) → mather_inside row ≡ bytes → 32 ∷ bytes ≡ 32 ∷ (monomial_text row.monomial ++ (32 ∷ ((61 ∷ []) ++ multipliers_text row.multipliers)))
mather_line row bytes e = ap (λ z. 32 ∷ z) (sym e ∙ append_assoc (monomial_text row.monomial) (32 ∷ 61 ∷ []) (multipliers_text row.multipliers))

-- what stands behind the monomial
pub mather_behind : (a : Algebra) (corank order : ℕ) (row : MatherRow (Ext Frac)) (bytes : List ℕ) (m : Exp) (behind : Option (Bor (List ℕ))) → IsRowOf a corank order row → mather_inside row ≡ bytes → IsResidual corank m → 32 ∷ bytes ≡ 32 ∷ (monomial_text m ++ after_space behind)
    → after_space behind ≡ 32 ∷ ((61 ∷ []) ++ multipliers_text row.multipliers)
mather_behind a corank order row bytes m behind h e valid split = sym (monomial_one corank row.monomial m (32 ∷ ((61 ∷ []) ++ multipliers_text row.multipliers)) behind (32 ∷ bytes) h.monomial valid refl (mather_line row bytes e) split).1

-- what stands behind the equals sign
pub mather_rest : (a : Algebra) (corank order : ℕ) (row : MatherRow (Ext Frac)) (bytes : List ℕ) (m : Exp) (behind rest : Option (Bor (List ℕ))) → IsRowOf a corank order row → mather_inside row ≡ bytes → IsResidual corank m → 32 ∷ bytes ≡ 32 ∷ (monomial_text m ++ after_space behind)
    → after_space behind ≡ 32 ∷ ((61 ∷ []) ++ after_space rest) → after_space rest ≡ multipliers_text row.multipliers
mather_rest a corank order row bytes m behind rest h e valid split mark = sym (mark_one (61 ∷ []) (multipliers_text row.multipliers) rest (after_space behind) (mather_behind a corank order row bytes m behind h e valid split) mark)

-- ---- rows of the table

abbrev pub table_end : TableRow (Ext Frac) → List ℕ
table_end row = 32 ∷ ((58 ∷ []) ++ multipliers_text row.multipliers)

table_line : (row : TableRow (Ext Frac)) (bytes : List ℕ) → table_inside row ≡ bytes → 32 ∷ bytes ≡ 32 ∷ (monomial_text row.monomial ++ (32 ∷ ((61 ∷ []) ++ (values_text row.values ++ table_end row))))
table_line row bytes e = ap (λ z. 32 ∷ z) (sym e ∙ regroup (monomial_text row.monomial) (values_text row.values) (multipliers_text row.multipliers))
  where
    regroup : (m v f : List ℕ) → (((m ++ (32 ∷ 61 ∷ [])) ++ v) ++ (32 ∷ 58 ∷ [])) ++ f ≡ m ++ (32 ∷ 61 ∷ (v ++ (32 ∷ 58 ∷ f)))
    regroup m v f = simp append_assoc

pub values_rest : (vs : List (Ext Frac)) (y : List ℕ) → IsRest y → IsRest (values_text vs ++ y)
values_rest [] y h = h
values_rest (v ∷ vs) y h = refl

-- the values, which are so many elements
pub row_values : (a : Algebra) (corank order size : ℕ) (row : TableRow (Ext Frac)) → IsTableRowOf a corank order size row → AreElements a size row.values
row_values a corank order size row h = record { count_is = h.count; elements = h.values }

pub table_behind : (a : Algebra) (corank order size : ℕ) (row : TableRow (Ext Frac)) (bytes : List ℕ) (m : Exp) (behind : Option (Bor (List ℕ))) → IsTableRowOf a corank order size row → table_inside row ≡ bytes → IsResidual corank m → 32 ∷ bytes ≡ 32 ∷ (monomial_text m ++ after_space behind)
    → after_space behind ≡ 32 ∷ ((61 ∷ []) ++ (values_text row.values ++ table_end row))
table_behind a corank order size row bytes m behind h e valid split =
    sym (monomial_one corank row.monomial m (32 ∷ ((61 ∷ []) ++ (values_text row.values ++ table_end row))) behind (32 ∷ bytes) h.monomial valid refl (table_line row bytes e) split).1

-- no equals sign
pub table_unmarked : (a : Algebra) (corank order size : ℕ) (row : TableRow (Ext Frac)) (bytes : List ℕ) (m : Exp) (behind : Option (Bor (List ℕ))) → IsTableRowOf a corank order size row → table_inside row ≡ bytes → IsResidual corank m → 32 ∷ bytes ≡ 32 ∷ (monomial_text m ++ after_space behind)
    → ((y : List ℕ) → IsRest y → after_space behind ≡ 32 ∷ ((61 ∷ []) ++ y) → ⊥) → ⊥
table_unmarked a corank order size row bytes m behind h e valid split none = none (values_text row.values ++ table_end row) (values_rest row.values (table_end row) refl) (table_behind a corank order size row bytes m behind h e valid split)

pub table_front : (a : Algebra) (corank order size : ℕ) (row : TableRow (Ext Frac)) (bytes : List ℕ) (m : Exp) (behind front : Option (Bor (List ℕ))) → IsTableRowOf a corank order size row → table_inside row ≡ bytes → IsResidual corank m → 32 ∷ bytes ≡ 32 ∷ (monomial_text m ++ after_space behind)
    → after_space behind ≡ 32 ∷ ((61 ∷ []) ++ after_space front) → after_space front ≡ values_text row.values ++ table_end row
table_front a corank order size row bytes m behind front h e valid split mark =
    sym (mark_one (61 ∷ []) (values_text row.values ++ table_end row) front (after_space behind) (table_behind a corank order size row bytes m behind h e valid split) mark)

-- what stands behind the colon
pub table_rest : (row : TableRow (Ext Frac)) (left rest : Option (Bor (List ℕ))) → after_space left ≡ table_end row → after_space left ≡ 32 ∷ ((58 ∷ []) ++ after_space rest) → after_space rest ≡ multipliers_text row.multipliers
table_rest row left rest e mark = sym (mark_one (58 ∷ []) (multipliers_text row.multipliers) rest (after_space left) e mark)

-- ---- parts of a change

part_line : (v : Name × Jet) (bytes : List ℕ) → part_inside v ≡ bytes → 32 ∷ bytes ≡ 32 ∷ (name_text v.0 ++ (32 ∷ ((61 ∷ []) ++ (32 ∷ jet_text v.1))))
part_line v bytes e = ap (λ z. 32 ∷ z) (sym e ∙ append_assoc (name_text v.0) (32 ∷ 61 ∷ 32 ∷ []) (jet_text v.1))

-- the name is the first word
pub part_name : (a : Algebra) (n order : ℕ) (v : Name × Jet) (bytes word : List ℕ) (behind : Option (Bor (List ℕ))) → IsNamedPart a n order v → part_inside v ≡ bytes → 32 ∷ bytes ≡ 32 ∷ (word ++ after_space behind) → IsWord word
    → (name_text v.0 ≡ word) × (32 ∷ ((61 ∷ []) ++ (32 ∷ jet_text v.1)) ≡ after_space behind)
part_name a n order v bytes word behind h e split hw =
    word_is (32 ∷ bytes) (name_text v.0) (32 ∷ ((61 ∷ []) ++ (32 ∷ jet_text v.1))) word behind split hw (visible_word (name_text v.0) (visible-name v.0 h.name)) refl (part_line v bytes e)

pub part_rest : (a : Algebra) (n order : ℕ) (v : Name × Jet) (bytes word : List ℕ) (behind rest : Option (Bor (List ℕ))) → IsNamedPart a n order v → part_inside v ≡ bytes → 32 ∷ bytes ≡ 32 ∷ (word ++ after_space behind) → IsWord word → after_space behind ≡ 32 ∷ ((61 ∷ []) ++ after_space rest)
    → after_space rest ≡ 32 ∷ jet_text v.1
part_rest a n order v bytes word behind rest h e split hw mark = sym (mark_one (61 ∷ []) (32 ∷ jet_text v.1) rest (after_space behind) (sym (part_name a n order v bytes word behind h e split hw).1) mark)

-- the polynomial has a constant term
pub part_constant : (a : Algebra) (n order : ℕ) (v : Name × Jet) (f : Jet) (rest : List ℕ) (r : Bool) → order < 256 → IsNamedPart a n order v → rest ≡ 32 ∷ jet_text v.1 → IsJetOf n order a f → rest ≡ 32 ∷ jet_text f → r ≡ has_no_constant f → r ≡ false → ⊥
part_constant a n order v f rest r lt h text is there test failed =
    let same = jet_same n order a v.1 f lt h.part.jet is (head 32 32 (jet_text v.1) (jet_text f) (sym text ∙ there)).1 in
    let holds : has_no_constant f ≡ true = subst (λ (g : Jet). has_no_constant g ≡ true) same h.part.no_constant in
    absurd (cc (holds, test, failed))
