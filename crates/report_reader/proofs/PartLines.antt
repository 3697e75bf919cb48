-- The lines of the parts of a change.
use Rattle.std.proofs.Common.{◌≡◌, ℕ, zero, suc, ◌+◌, ◌-◌, ◌<◌, ◌≤◌, Bool, true, eqb, leb, not, ◌&&◌, inl, List, [], ◌∷◌, ◌++◌, length, drop, refl, sym, ap, ◌∙◌, subst, append_assoc, append-nil, length-append, arith}
use Rattle.std.specs.Prelude.{codes, sum, IsTrue}
use Rattle.std.specs.List.{AllByRecursion, list_all}
use Rattle.std.specs.Cmp.Derive.{both_true}
use Rattle.std.proofs.lemmas.List.Folds.{list_all-append}
use Rattle.ext_algebra.specs.declared.algebra.Algebra.{Algebra}
use Rattle.ext_algebra.specs.Algebra.{is_element}
use Rattle.mono_exp.specs.declared.exponent.Exp.{Exp}
use Rattle.jet_poly.specs.JetTerms.{JetTerms}
use Rattle.jet_poly.proofs.Output.{all-push}
use Rattle.poly_text.specs.declared.name.Name.{Name}
use Rattle.poly_text.specs.Polynomials.{name_text, jet_text, polynomial_in}
use Rattle.cert_text.specs.declared.word.Word.TheVariants as words
use Rattle.cert_text.specs.Words.{word_text}
use Rattle.cert_text.specs.Text.{line, part_text, parts_text, part_inside}
use Rattle.cert_text.specs.BadText.{IsWholeLines}
use Rattle.cert_text.specs.WellFormed.{is_valid_name, is_monomial_in, is_term_of, is_zero_element, IsPartOf}
use Rattle.cert_law.specs.Unique.{IsSelfEnding}
use Rattle.cert_law.specs.Fields.{Element, Term, IsPolynomial, IsReadableJet}
use Rattle.cert_law.proofs.Valid.{both, all_to, polynomial_by}
use Rattle.cert_law.proofs.Parts as law
use Rattle.cert_law.proofs.Carrying.{part_lines, jets_same, readable}
use Rattle.row_reader.specs.Rows.{IsNamedPart}
use Rattle.row_reader.proofs.ValueTexts.{all_list}
use Rattle.report_reader.specs.declared.frame.Frame.{Frame}
use Rattle.report_reader.specs.declared.frame.Parts.{Parts}
use Rattle.report_reader.specs.Lines.{IsClean}
use Rattle.report_reader.specs.Blocks.{IsStop, IsNotAtFront}
use Rattle.report_reader.specs.States.{IsFrame, part_line, lines_of, change_text, pushed, ArePartsIn, AreParts, AreSoMany}
use Rattle.report_reader.proofs.Fronts.{clean-append, line-line, line-word}
use Rattle.report_reader.proofs.CleanTexts.{jet_clean, name_clean}
use Rattle.report_reader.proofs.Stops.{IsLine, IsApart, stop_here, stop_behind, whole-append, whole-line}
use Rattle.report_reader.proofs.RowLines.{many_copies}
use Rattle.normal_forms.proofs.FormTerms.{all-append}

-- ---- one part

pub part_clean : (f : Frame) (n : ℕ) → IsFrame f → (p : Name × JetTerms Element) → IsNamedPart f.algebra n f.order p → IsClean (part_inside p)
part_clean f n w p h =
    let le = w.order_at_most in
    clean-append (name_text p.0 ++ codes " = ") (jet_text p.1)
    (clean-append (name_text p.0) (codes " = ") (name_clean p.0 h.name) (omega arith))
    (jet_clean n f.order f.algebra le p.1 h.part.jet)

pub part_is_line : (f : Frame) (n : ℕ) → IsFrame f → (p : Name × JetTerms Element) → IsNamedPart f.algebra n f.order p → IsLine (part_line p)
unfolding part_text
part_is_line f n w p h = line-line (part_inside p) (part_clean f n w p h)

-- ---- the same part in more variables

pub drop_all : (p : ℕ → Bool) (n k : ℕ) (xs : List ℕ) → n ≤ k → list_all p (drop n xs) ≡ true → list_all p (drop k xs) ≡ true
drop_all p zero zero xs le h = h
drop_all p zero (suc k) [] le h = refl
drop_all p zero (suc k) (x ∷ xs) le h = drop_all p zero k xs (omega arith) (both (p x) (list_all p xs) h).1
drop_all p (suc n) zero xs le h = absurd (omega (arith, le))
drop_all p (suc n) (suc k) [] le h = refl
drop_all p (suc n) (suc k) (x ∷ xs) le h = drop_all p n k xs (omega (arith, le)) h

monomial_wide : (n k : ℕ) (m : Exp) → n ≤ k → is_monomial_in n m ≡ true → is_monomial_in k m ≡ true
monomial_wide n k m le h =
    let p = both (eqb (length m.e) 8) (list_all (λ e. eqb e 0) (drop n m.e)) h in
    both_true p.0 (drop_all (λ e. eqb e 0) n k m.e le p.1)

term_wide : (n k order : ℕ) (a : Algebra) (t : Term) → n ≤ k → is_term_of n order a t ≡ true → is_term_of k order a t ≡ true
term_wide n k order a t le h =
    let low = leb (sum t.0.e) order in
    let co = is_element a t.1 && not (is_zero_element t.1) in
    let p = both (is_monomial_in n t.0 && low) co h in
    let q = both (is_monomial_in n t.0) low p.0 in
    both_true (both_true (monomial_wide n k t.0 le q.0) q.1) p.1

terms_wide : (n k order : ℕ) (a : Algebra) (ts : List Term) → n ≤ k → list_all (is_term_of n order a) ts ≡ true → list_all (is_term_of k order a) ts ≡ true
terms_wide n k order a [] le h = refl
terms_wide n k order a (t ∷ ts) le h =
    let p = both (is_term_of n order a t) (list_all (is_term_of n order a) ts) h in
    both_true (term_wide n k order a t le p.0) (terms_wide n k order a ts le p.1)

abbrev pub widened : ℕ → JetTerms Element → JetTerms Element
widened k f = record { n = k; order = f.order; terms = f.terms }

pub part_wide : (n k order : ℕ) (a : Algebra) (f : JetTerms Element) → n ≤ k → IsPartOf n order a f → IsPartOf k order a (widened k f)
part_wide n k order a f le h = record {
  jet = record { variables = refl; order_is = h.jet.order_is; rising = h.jet.rising; terms = terms_wide n k order a f.terms le h.jet.terms };
  no_constant = h.no_constant;
}

-- ---- parts one after the other

polynomials : (f : Frame) (n : ℕ) (p : Parts) → IsFrame f → ArePartsIn f n p → law.AreParts p.names p.parts
polynomials f n p w h =
    let le = w.order_at_most in
    (h.names, h.count, all_to (IsPartOf n f.order f.algebra) (λ g. IsPolynomial g.terms) (λ g q. polynomial_by n f.order f.algebra g (omega (arith, le)) q.jet) p.parts h.parts)

-- equally many parts end at one place
same_many : (ms ns : List Name) (fs gs : List (JetTerms Element)) (x y : List ℕ) → law.AreParts ms fs → law.AreParts ns gs → length ms ≡ length ns → parts_text ms fs ++ x ≡ parts_text ns gs ++ y → x ≡ y
unfolding parts_text
same_many [] [] fs gs x y of og e h = h
same_many [] (n ∷ ns) fs gs x y of og e h = absurd (omega (arith, e))
same_many (m ∷ ms) [] fs gs x y of og e h = absurd (omega (arith, e))
same_many (m ∷ ms) (n ∷ ns) [] gs x y of og e h = absurd (omega (arith, of.1))
same_many (m ∷ ms) (n ∷ ns) (f ∷ fs) [] x y of og e h = absurd (omega (arith, og.1))
same_many (m ∷ ms) (n ∷ ns) (f ∷ fs) (g ∷ gs) x y of og e h =
    let p = both (is_valid_name m) (list_all is_valid_name ms) of.0 in
    let q = both (is_valid_name n) (list_all is_valid_name ns) og.0 in
    let r = law.part_one m n f g (parts_text ms fs ++ x) (parts_text ns gs ++ y) p.0 q.0 of.2.0 og.2.0 (sym (append_assoc (part_text m f) (parts_text ms fs) x) ∙ h ∙ append_assoc (part_text n g) (parts_text ns gs) y) in
    same_many ms ns fs gs x y (p.1, omega (arith, of.1), of.2.1) (q.1, omega (arith, og.1), og.2.1) (omega (arith, e)) r.2

pub many_same : (f : Frame) (m n : ℕ) (p q : Parts) (x y : List ℕ) → IsFrame f → ArePartsIn f m p → ArePartsIn f n q → length p.names ≡ length q.names → lines_of p ++ x ≡ lines_of q ++ y → x ≡ y
many_same f m n p q x y w hp hq e h = same_many p.names q.names p.parts q.parts x y (polynomials f m p w hp) (polynomials f n q w hq) e h

same_line : (m n : Name) (f g : JetTerms Element) → m ≡ n → f.terms ≡ g.terms → part_text m f ≡ part_text n g
unfolding part_text polynomial_in
same_line m n f g a b = λ i. line (name_text (a i) ++ codes " = " ++ jet_text (record { n = f.n; order = f.order; terms = b i }))

-- the parts ns, gs begin with those of ms, fs, and others follow
pub record GoesOn (P : JetTerms Element → Type 0) (ms ns : List Name) (fs gs : List (JetTerms Element)) (y z : List ℕ) : Type 0 where
  pub names : List Name
  pub parts : List (JetTerms Element)
  pub valid : list_all is_valid_name names ≡ true
  pub count : length parts ≡ length names
  pub each : AllByRecursion P parts
  pub text : parts_text ns gs ≡ parts_text ms fs ++ parts_text names parts
  pub size : length ns ≡ length ms + length names
  pub rest : y ≡ parts_text names parts ++ z

goes_on : (P : JetTerms Element → Type 0) → ((g : JetTerms Element) → P g → IsPolynomial g.terms) → (ms ns : List Name) (fs gs : List (JetTerms Element)) (x y : List ℕ) → law.AreParts ms fs → list_all is_valid_name ns ≡ true → length gs ≡ length ns → AllByRecursion P gs
    → parts_text ms fs ++ y ≡ parts_text ns gs ++ (105 ∷ 110 ∷ x) → GoesOn P ms ns fs gs y (105 ∷ 110 ∷ x)
unfolding parts_text
goes_on P poly [] ns fs gs x y of vn count each h = record { names = ns; parts = gs; valid = vn; count = count; each = each; text = refl; size = omega arith; rest = h }
goes_on P poly (m ∷ ms) ns [] gs x y of vn count each h = absurd (omega (arith, of.1))
goes_on P poly (m ∷ ms) [] (f ∷ fs) gs x y of vn count each h =
    absurd (law.part_apart m f (parts_text ms fs ++ y) x (both (is_valid_name m) (list_all is_valid_name ms) of.0).0 (sym h ∙ append_assoc (part_text m f) (parts_text ms fs) y))
goes_on P poly (m ∷ ms) (n ∷ ns) (f ∷ fs) [] x y of vn count each h = absurd (omega (arith, count))
goes_on P poly (m ∷ ms) (n ∷ ns) (f ∷ fs) (g ∷ gs) x y of vn count each h =
    let p = both (is_valid_name m) (list_all is_valid_name ms) of.0 in
    let q = both (is_valid_name n) (list_all is_valid_name ns) vn in
    let r = law.part_one m n f g (parts_text ms fs ++ y) (parts_text ns gs ++ (105 ∷ 110 ∷ x)) p.0 q.0 of.2.0 (poly g each.0)
    (sym (append_assoc (part_text m f) (parts_text ms fs) y) ∙ h ∙ append_assoc (part_text n g) (parts_text ns gs) (105 ∷ 110 ∷ x)) in
    let t = goes_on P poly ms ns fs gs x y (p.1, omega (arith, of.1), of.2.1) q.1 (omega (arith, count)) each.1 r.2 in
    let one = same_line m n f g (r.0) (r.1) in
    let size = t.size in
    record {
      names = t.names;
      parts = t.parts;
      valid = t.valid;
      count = t.count;
      each = t.each;
      text = ap (λ (z : List ℕ). part_text n g ++ z) t.text ∙ sym (append_assoc (part_text n g) (parts_text ms fs) (parts_text t.names t.parts)) ∙ ap (λ (z : List ℕ). (z ++ parts_text ms fs) ++ parts_text t.names t.parts) (sym one);
      size = omega (arith, size);
      rest = t.rest;
    }

-- more parts than those that stand at the front go on with one
pub record HasNext (P : JetTerms Element → Type 0) (y : List ℕ) : Type 0 where
  pub name : Name
  pub part : JetTerms Element
  pub valid : is_valid_name name ≡ true
  pub is : P part
  pub more : List ℕ
  pub text : part_text name part ++ more ≡ y

has_next : (P : JetTerms Element → Type 0) → ((g : JetTerms Element) → P g → IsPolynomial g.terms) → (ms ns : List Name) (fs gs : List (JetTerms Element)) (x y : List ℕ) → law.AreParts ms fs → list_all is_valid_name ns ≡ true → length gs ≡ length ns → AllByRecursion P gs
    → length ms < length ns → parts_text ms fs ++ y ≡ parts_text ns gs ++ x → HasNext P y
unfolding parts_text
has_next P poly ms [] fs gs x y of vn count each lt h = absurd (omega (arith, lt))
has_next P poly ms (n ∷ ns) fs [] x y of vn count each lt h = absurd (omega (arith, count))
has_next P poly [] (n ∷ ns) fs (g ∷ gs) x y of vn count each lt h =
    record { name = n; part = g; valid = (both (is_valid_name n) (list_all is_valid_name ns) vn).0; is = each.0; more = parts_text ns gs ++ x; text = sym (append_assoc (part_text n g) (parts_text ns gs) x) ∙ sym h }
has_next P poly (m ∷ ms) (n ∷ ns) [] (g ∷ gs) x y of vn count each lt h = absurd (omega (arith, of.1))
has_next P poly (m ∷ ms) (n ∷ ns) (f ∷ fs) (g ∷ gs) x y of vn count each lt h =
    let p = both (is_valid_name m) (list_all is_valid_name ms) of.0 in
    let q = both (is_valid_name n) (list_all is_valid_name ns) vn in
    let r = law.part_one m n f g (parts_text ms fs ++ y) (parts_text ns gs ++ x) p.0 q.0 of.2.0 (poly g each.0)
    (sym (append_assoc (part_text m f) (parts_text ms fs) y) ∙ h ∙ append_assoc (part_text n g) (parts_text ns gs) x) in
    has_next P poly ms ns fs gs x y (p.1, omega (arith, of.1), of.2.1) q.1 (omega (arith, count)) each.1 (omega (arith, lt)) r.2

part_polynomial : (f : Frame) (n : ℕ) → IsFrame f → (g : JetTerms Element) → IsPartOf n f.order f.algebra g → IsPolynomial g.terms
part_polynomial f n w g h = let le = w.order_at_most in polynomial_by n f.order f.algebra g (omega (arith, le)) h.jet

-- where fewer parts stand at the front and none follows, there are not so many
pub too_few : (f : Frame) (n count total : ℕ) (p : Parts) (bytes rest : List ℕ) → IsFrame f → AreSoMany f n count p → count < total → lines_of p ++ rest ≡ bytes → IsNotAtFront (IsNamedPart f.algebra n f.order) part_line rest → IsNotAtFront (AreSoMany f n total) lines_of bytes
too_few f n count total p bytes rest w h lt e none v more ok q =
    let size = h.long in
    let long = ok.long in
    let r = has_next (IsPartOf n f.order f.algebra) (part_polynomial f n w) p.names v.names p.parts v.parts more rest (polynomials f n p w h.parts) ok.parts.names ok.parts.count ok.parts.parts (omega (arith, size, long, lt)) (e ∙ sym q) in
    none (r.name, r.part) r.more (record { name = r.valid; part = r.is }) r.text

-- ---- one more part

parts_append : (ms ns : List Name) (fs gs : List (JetTerms Element)) → length fs ≡ length ms → parts_text (ms ++ ns) (fs ++ gs) ≡ parts_text ms fs ++ parts_text ns gs
unfolding parts_text
parts_append [] ns [] gs e = refl
parts_append [] ns (f ∷ fs) gs e = absurd (omega (arith, e))
parts_append (m ∷ ms) ns [] gs e = absurd (omega (arith, e))
parts_append (m ∷ ms) ns (f ∷ fs) gs e = ap (λ (z : List ℕ). part_text m f ++ z) (parts_append ms ns fs gs (omega (arith, e))) ∙ sym (append_assoc (part_text m f) (parts_text ms fs) (parts_text ns gs))

parts_push : (ms : List Name) (fs : List (JetTerms Element)) (n : Name) (g : JetTerms Element) → length fs ≡ length ms → parts_text (ms ++ n ∷ []) (fs ++ g ∷ []) ≡ parts_text ms fs ++ part_text n g
unfolding parts_text
parts_push ms fs n g e = parts_append ms (n ∷ []) fs (g ∷ []) e ∙ ap (λ (z : List ℕ). parts_text ms fs ++ z) (append-nil (part_text n g))

pub many_none : (f : Frame) (n : ℕ) → AreSoMany f n 0 (record { names = []; parts = [] })
many_none f n = record { parts = record { names = refl; count = refl; parts = tt }; long = refl }

pub many_more : (f : Frame) (n count : ℕ) (p : Parts) (q : Name × JetTerms Element) → AreSoMany f n count p → IsNamedPart f.algebra n f.order q → AreSoMany f n (count + 1) (pushed p q)
many_more f n count p q h part =
    let names_size = length-append p.names (q.0 ∷ []) in
    let parts_size = length-append p.parts (q.1 ∷ []) in
    let long = h.long in
    let same = h.parts.count in
    record {
      parts = record {
        names = list_all-append is_valid_name p.names (q.0 ∷ []) ∙ both_true h.parts.names (both_true part.name refl);
        count = omega (arith, names_size, parts_size, same);
        parts = all-push (IsPartOf n f.order f.algebra) p.parts q.1 h.parts.parts part.part;
      };
      long = omega (arith, names_size, long);
    }

pub more_lines : (f : Frame) (n count : ℕ) (p : Parts) (q : Name × JetTerms Element) (rest after bytes : List ℕ) → AreSoMany f n count p → lines_of p ++ rest ≡ bytes → part_line q ++ after ≡ rest → lines_of (pushed p q) ++ after ≡ bytes
more_lines f n count p q rest after bytes h e a =
    ap (λ (z : List ℕ). z ++ after) (parts_push p.names p.parts q.0 q.1 h.parts.count) ∙ append_assoc (lines_of p) (part_line q) after ∙ ap (λ (z : List ℕ). lines_of p ++ z) a ∙ e

-- ---- where the parts of a change stop

-- so many parts that may always follow: x = 0
abbrev default_name : Name
default_name = record { bytes = 120 ∷ 0 ∷ 0 ∷ 0 ∷ []; len = 1 }

abbrev pub zero_jet : ℕ → ℕ → JetTerms Element
zero_jet n order = record { n = n; order = order; terms = [] }

pub zero_part : (n order : ℕ) (a : Algebra) → IsPartOf n order a (zero_jet n order)
zero_part n order a = record { jet = record { variables = refl; order_is = refl; rising = tt; terms = refl }; no_constant = refl }

-- the lines that follow those that stand at the front, in the text of valid parts
record Follows (f : Frame) (passed w : Parts) : Type 0 where
  pub whole : Parts
  pub valid : AreParts f whole
  pub names : list_all is_valid_name w.names ≡ true
  pub count : length w.parts ≡ length w.names
  pub each : AllByRecursion (IsPartOf (length whole.names) f.order f.algebra) w.parts
  pub text : change_text whole ≡ lines_of passed ++ change_text w
  pub size : length whole.names ≡ length passed.names + length w.names

follows_from : (f : Frame) (count : ℕ) (passed v : Parts) (x y : List ℕ) → IsFrame f → AreSoMany f 8 count passed → AreParts f v → change_text v ++ x ≡ lines_of passed ++ y → (w : Parts) × Follows f passed w × (change_text v ≡ lines_of passed ++ change_text w)
unfolding change_text line word_text
follows_from f count passed v x y fw h ok e =
    let n = length v.names in
    let r = goes_on (IsPartOf n f.order f.algebra) (part_polynomial f n fw) passed.names v.names passed.parts v.parts (118 ∷ 101 ∷ 114 ∷ 115 ∷ 101 ∷ 10 ∷ x) y
    (polynomials f 8 passed fw h.parts) ok.parts.names ok.parts.count ok.parts.parts
    (sym e ∙ append_assoc (lines_of v) (105 ∷ 110 ∷ 118 ∷ 101 ∷ 114 ∷ 115 ∷ 101 ∷ 10 ∷ []) x) in
    let text = ap (λ (z : List ℕ). z ++ (105 ∷ 110 ∷ 118 ∷ 101 ∷ 114 ∷ 115 ∷ 101 ∷ 10 ∷ [])) r.text ∙ append_assoc (lines_of passed) (parts_text r.names r.parts) (105 ∷ 110 ∷ 118 ∷ 101 ∷ 114 ∷ 115 ∷ 101 ∷ 10 ∷ []) in
    (record { names = r.names; parts = r.parts }, record { whole = v; valid = ok; names = r.valid; count = r.count; each = r.each; text = text; size = r.size }, text)

-- parts x = 0 up to eight parts in all
completed : (f : Frame) (count : ℕ) (passed : Parts) → IsFrame f → AreSoMany f 8 count passed → count ≤ 8 → (w : Parts) × Follows f passed w
unfolding change_text
completed f count passed fw h few =
    let k = 8 - count in
    let some_names = many_copies (λ name. IsTrue (is_valid_name name)) k default_name refl in
    let some_jets = many_copies (IsPartOf 8 f.order f.algebra) k (zero_jet 8 f.order) (zero_part 8 f.order f.algebra) in
    let ns = some_names.0 in
    let gs = some_jets.0 in
    let ns_size = some_names.1.0 in
    let gs_size = some_jets.1.0 in
    let valid = all_list is_valid_name ns some_names.1.1 in
    let long = h.long in
    let same = h.parts.count in
    let names_size = length-append passed.names ns in
    let parts_size = length-append passed.parts gs in
    let corank = fw.corank in
    let eight : length (passed.names ++ ns) ≡ 8 = omega (arith, names_size, ns_size, long, few) in
    let each : AllByRecursion (IsPartOf 8 f.order f.algebra) (passed.parts ++ gs) = all-append (IsPartOf 8 f.order f.algebra) passed.parts gs h.parts.parts some_jets.1.1 in
    let gs_each : AllByRecursion (IsPartOf 8 f.order f.algebra) gs = some_jets.1.1 in (
      record { names = ns; parts = gs },
      record {
        whole = record { names = passed.names ++ ns; parts = passed.parts ++ gs };
        valid = record {
          some_name = omega (arith, eight);
          few_names = omega (arith, eight);
          corank = omega (arith, eight, corank);
          parts = record {
            names = list_all-append is_valid_name passed.names ns ∙ both_true h.parts.names valid;
            count = omega (arith, names_size, parts_size, ns_size, gs_size, same);
            parts = subst (λ (n : ℕ). AllByRecursion (IsPartOf n f.order f.algebra) (passed.parts ++ gs)) (sym eight) each;
          };
        };
        names = valid;
        count = gs_size ∙ sym ns_size;
        each = subst (λ (n : ℕ). AllByRecursion (IsPartOf n f.order f.algebra) gs) (sym eight) gs_each;
        text = ap (λ (z : List ℕ). z ++ line (word_text words.Inverse)) (parts_append passed.names ns passed.parts gs same) ∙ append_assoc (lines_of passed) (parts_text ns gs) (line (word_text words.Inverse));
        size = names_size;
      },
    )

-- the first line of what follows does not stand at the front of the rest
apart_cases : (f : Frame) (n : ℕ) (ns : List Name) (gs : List (JetTerms Element)) (behind : List ℕ) → IsFrame f → n ≤ 8 → list_all is_valid_name ns ≡ true → length gs ≡ length ns → AllByRecursion (IsPartOf n f.order f.algebra) gs
    → (0 < length ns → IsNotAtFront (IsNamedPart f.algebra 8 f.order) part_line behind)
    → (length ns ≡ 0 → (more : List ℕ) → line (word_text words.Inverse) ++ more ≡ behind → ⊥)
    → IsApart (change_text (record { names = ns; parts = gs })) behind
unfolding change_text parts_text
apart_cases f n [] gs behind fw le vn count each none last = record { first = line (word_text words.Inverse); tail = []; line = line-word words.Inverse; is = sym (append-nil (line (word_text words.Inverse))); never = last refl }
apart_cases f n (m ∷ ns) [] behind fw le vn count each none last = absurd (omega (arith, count))
apart_cases f n (m ∷ ns) (g ∷ gs) behind fw le vn count each none last =
    let named : IsNamedPart f.algebra 8 f.order (m, widened 8 g) = record { name = (both (is_valid_name m) (list_all is_valid_name ns) vn).0; part = part_wide n 8 f.order f.algebra g le each.0 } in
    let same : part_text m (widened 8 g) ≡ part_text m g = same_line m m (widened 8 g) g refl refl in
    record {
      first = part_text m g;
      tail = parts_text ns gs ++ line (word_text words.Inverse);
      line = subst IsLine same (part_is_line f 8 fw (m, widened 8 g) named);
      is = append_assoc (part_text m g) (parts_text ns gs) (line (word_text words.Inverse));
      never = λ more e. none (omega arith) (m, widened 8 g) more named (ap (λ (z : List ℕ). z ++ more) same ∙ e);
    }

follower_apart : (f : Frame) (count : ℕ) (passed w : Parts) (behind : List ℕ) → IsFrame f → AreSoMany f 8 count passed → Follows f passed w
    → (count < 8 → IsNotAtFront (IsNamedPart f.algebra 8 f.order) part_line behind)
    → (length w.names ≡ 0 → (more : List ℕ) → line (word_text words.Inverse) ++ more ≡ behind → ⊥)
    → IsApart (change_text w) behind
follower_apart f count passed w behind fw h s none last =
    let few = s.valid.few_names in
    let size = s.size in
    let long = h.long in
    apart_cases f (length s.whole.names) w.names w.parts behind fw few s.names s.count s.each (λ lt. none (omega (arith, few, size, long, lt))) last

-- with no part left the line `inverse` is left
empty_text : (ns : List Name) (gs : List (JetTerms Element)) → length ns ≡ 0 → change_text (record { names = ns; parts = gs }) ≡ line (word_text words.Inverse)
unfolding change_text parts_text
empty_text [] gs e = refl
empty_text (n ∷ ns) gs e = absurd (omega (arith, e))

parts_whole : (f : Frame) (n : ℕ) (ns : List Name) (gs : List (JetTerms Element)) → IsFrame f → list_all is_valid_name ns ≡ true → AllByRecursion (IsPartOf n f.order f.algebra) gs → IsWholeLines (parts_text ns gs)
unfolding parts_text
parts_whole f n [] gs w vn each = inl refl
parts_whole f n (m ∷ ns) [] w vn each = inl refl
parts_whole f n (m ∷ ns) (g ∷ gs) w vn each =
    let p = both (is_valid_name m) (list_all is_valid_name ns) vn in
    whole-append (part_text m g) (parts_text ns gs) (whole-line (part_text m g) (part_is_line f n w (m, g) (record { name = p.0; part = each.0 }))) (parts_whole f n ns gs w p.1 each.1)

pub parts_stop : (f : Frame) (count : ℕ) (passed : Parts) (bytes behind : List ℕ) → IsFrame f → AreSoMany f 8 count passed → count ≤ 8 → lines_of passed ++ behind ≡ bytes
    → (count < 8 → IsNotAtFront (IsNamedPart f.algebra 8 f.order) part_line behind)
    → ((v : Parts) (more : List ℕ) → AreParts f v → length v.names ≡ count → change_text v ++ more ≡ bytes → ⊥)
    → IsStop (AreParts f) change_text bytes (length behind)
parts_stop f count passed bytes behind fw h few e none last =
    let start = completed f count passed fw h few in
    stop_behind (AreParts f) change_text (Follows f passed) change_text bytes (lines_of passed) behind (length behind) (parts_whole f 8 passed.names passed.parts fw h.parts.names h.parts.parts) e
    (λ w s. (s.whole, s.valid, s.text))
    (λ v x y ok q. follows_from f count passed v x y fw h ok q)
    (stop_here (Follows f passed) change_text behind start.0 start.1 (λ w s. follower_apart f count passed w behind fw h s none
    (λ z more q. last s.whole more s.valid (let size = s.size in let long = h.long in omega (arith, size, long, z))
    (ap (λ (b : List ℕ). b ++ more) (s.text ∙ ap (λ (b : List ℕ). lines_of passed ++ b) (empty_text w.names w.parts z)) ∙ append_assoc (lines_of passed) (line (word_text words.Inverse)) more ∙ ap (λ (b : List ℕ). lines_of passed ++ b) q ∙ e))))

-- ---- the cases in which no change has just the parts that stand at the front

-- no line `inverse` follows
pub no_inverse : (f : Frame) (count : ℕ) (passed : Parts) (bytes behind : List ℕ) → IsFrame f → AreSoMany f 8 count passed → lines_of passed ++ behind ≡ bytes
    → ((more : List ℕ) → line (word_text words.Inverse) ++ more ≡ behind → ⊥)
    → (v : Parts) (more : List ℕ) → AreParts f v → length v.names ≡ count → change_text v ++ more ≡ bytes → ⊥
unfolding change_text
no_inverse f count passed bytes behind w h text none v more ok size e =
    let long = h.long in
    none more (sym (many_same f 8 (length v.names) passed v behind (line (word_text words.Inverse) ++ more) w h.parts ok.parts (long ∙ sym size) (text ∙ sym e ∙ append_assoc (lines_of v) (line (word_text words.Inverse)) more)))

-- they are not parts in so many variables
pub none_so_many : (f : Frame) (count : ℕ) (bytes : List ℕ) → IsNotAtFront (AreSoMany f count count) lines_of bytes
    → (v : Parts) (more : List ℕ) → AreParts f v → length v.names ≡ count → change_text v ++ more ≡ bytes → ⊥
unfolding change_text
none_so_many f count bytes none v more ok size e =
    none v (line (word_text words.Inverse) ++ more) (record { parts = subst (λ (n : ℕ). ArePartsIn f n v) size ok.parts; long = size }) (sym (append_assoc (lines_of v) (line (word_text words.Inverse)) more) ∙ e)

-- the parts, and the line `inverse`
pub parts_read : (f : Frame) (count : ℕ) (passed p : Parts) (bytes behind rest after : List ℕ) → IsFrame f → AreSoMany f 8 count passed → lines_of passed ++ behind ≡ bytes → AreSoMany f count count p → lines_of p ++ after ≡ bytes
    → line (word_text words.Inverse) ++ rest ≡ behind → change_text p ++ rest ≡ bytes
unfolding change_text
parts_read f count passed p bytes behind rest after w h text hp read inverse =
    append_assoc (lines_of p) (line (word_text words.Inverse)) rest ∙ ap (λ (z : List ℕ). lines_of p ++ z)
    (inverse ∙ many_same f 8 count passed p behind after w h.parts hp.parts (h.long ∙ sym hp.long) (text ∙ sym read)) ∙ read

pub parts_are : (f : Frame) (count : ℕ) (p : Parts) → AreSoMany f count count p → 1 ≤ count → count ≤ 8 → f.corank ≤ count → AreParts f p
parts_are f count p h some few corank =
    let long = h.long in
    record { some_name = omega (arith, long, some); few_names = omega (arith, long, few); corank = omega (arith, long, corank); parts = subst (λ (n : ℕ). ArePartsIn f n p) (sym long) h.parts }

-- no parts, no lines
pub no_lines : (bytes : List ℕ) → lines_of (record { names = []; parts = [] }) ++ bytes ≡ bytes
unfolding parts_text
no_lines bytes = refl

pub many_start : (f : Frame) (n : ℕ) (p : Parts) (bytes : List ℕ) → p ≡ record { names = []; parts = [] } → AreSoMany f n 0 p × (lines_of p ++ bytes ≡ bytes)
many_start f n p bytes e = (subst (AreSoMany f n 0) (sym e) (many_none f n), ap (λ (z : Parts). lines_of z ++ bytes) e ∙ no_lines bytes)

pub many_same_value : (f : Frame) (n k : ℕ) (p q : Parts) (after bytes : List ℕ) → p ≡ q → AreSoMany f n k q → lines_of q ++ after ≡ bytes → AreSoMany f n k p × (lines_of p ++ after ≡ bytes)
many_same_value f n k p q after bytes e h t = (subst (AreSoMany f n k) (sym e) h, ap (λ (z : Parts). lines_of z ++ after) e ∙ t)

-- ---- a change is told from its lines

pub change_whole : (f : Frame) (p : Parts) → IsFrame f → AreParts f p → IsWholeLines (change_text p)
unfolding change_text
change_whole f p w h = whole-append (lines_of p) (line (word_text words.Inverse)) (parts_whole f (length p.names) p.names p.parts w h.parts.names h.parts.parts) (whole-line (line (word_text words.Inverse)) (line-word words.Inverse))

parts_is : (p q : Parts) → p.names ≡ q.names → p.parts ≡ q.parts → p ≡ q
parts_is p q a b = λ i. record { names = a i; parts = b i }

readable_part : (f : Frame) (n : ℕ) → IsFrame f → (g : JetTerms Element) → IsPartOf n f.order f.algebra g → IsReadableJet n f.order g
readable_part f n w g h = let le = w.order_at_most in readable n f.order f.algebra le g h.jet

pub change_told : (f : Frame) → IsFrame f → IsSelfEnding (AreParts f) change_text
unfolding change_text
change_told f w = record {
  one = λ p q x y op oq e.
      let h = part_lines p.names q.names p.parts q.parts x y (polynomials f (length p.names) p w op.parts) (polynomials f (length q.names) q w oq.parts)
      (sym (append_assoc (lines_of p) (line (word_text words.Inverse)) x) ∙ e ∙ append_assoc (lines_of q) (line (word_text words.Inverse)) y) in
      let as_many = subst (λ (ns : List Name). AllByRecursion (IsReadableJet (length ns) f.order) q.parts) (sym h.0) (all_to (IsPartOf (length q.names) f.order f.algebra) (IsReadableJet (length q.names) f.order) (readable_part f (length q.names) w) q.parts oq.parts.parts) in
      let parts = jets_same (length p.names) f.order p.parts q.parts (all_to (IsPartOf (length p.names) f.order f.algebra) (IsReadableJet (length p.names) f.order) (readable_part f (length p.names) w) p.parts op.parts.parts) as_many h.1 in
      (parts_is p q h.0 parts, h.2);
}

-- parts x = 0
pub some_parts : (f : Frame) → IsFrame f → (p : Parts) × AreParts f p
some_parts f w =
    let none = many_none f 8 in
    let c = completed f 0 (record { names = []; parts = [] }) w none (omega arith) in
    (c.1.whole, c.1.valid)
