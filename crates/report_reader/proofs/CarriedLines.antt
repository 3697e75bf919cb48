-- The lines from `order` to the jet, one after the other.
use Rattle.std.proofs.Common.{◌≡◌, ℕ, ◌*◌, ◌≤◌, true, List, [], ◌++◌, length, refl, sym, ap, ◌∙◌, subst, append_assoc, append-nil, arith, lit<}
use Rattle.std.specs.Prelude.{decimal, IsTrue}
use Rattle.std.specs.List.{AllByRecursion, list_all}
use Rattle.ext_algebra.specs.declared.algebra.Algebra.{Algebra}
use Rattle.ext_algebra.specs.declared.algebra.Algebra.TheVariants.{Rational}
use Rattle.ext_algebra.specs.Algebra.{is_algebra, is_element}
use Rattle.jet_poly.specs.JetTerms.{JetTerms}
use Rattle.poly_text.specs.Polynomials.{jet_text}
use Rattle.cert_text.specs.declared.report.Carried.{Carried}
use Rattle.cert_text.specs.declared.word.Word.{Word}
use Rattle.cert_text.specs.declared.word.Word.TheVariants as words
use Rattle.cert_text.specs.Words.{word_text}
use Rattle.cert_text.specs.Text.{line, word_line, algebra_text, rows_text, carried_text}
use Rattle.cert_text.specs.BadText.{IsWholeLines}
use Rattle.cert_text.specs.WellFormed.{IsJetOf, IsPartOf, IsWellFormedCarried}
use Rattle.cert_law.specs.Fields.{Element}
use Rattle.cert_law.proofs.Carrying.{algebra_line, carried_one}
use Rattle.cert_law.specs.Unique.{IsSelfEnding}
use Rattle.report_reader.specs.declared.frame.Frame.{Frame}
use Rattle.report_reader.specs.declared.frame.Parts.{Parts}
use Rattle.report_reader.specs.Lines.{IsWithin}
use Rattle.report_reader.specs.Blocks.{IsStop, IsNotAtFront}
use Rattle.report_reader.specs.States.{IsFrame, IsFramed, AreParts, change_text, change_rest, parts_of}
use Rattle.report_reader.proofs.Fronts.{line-word, line-word_line}
use Rattle.report_reader.proofs.CleanTexts.{algebra_clean, jet_clean}
use Rattle.report_reader.proofs.Stops.{IsLine, IsPair, stop_here, stop_behind, stop_before, pair_first, pair_second, whole-append, whole-line}
use Rattle.report_reader.proofs.RowLines.{field_pair, line_stop, numbers_told, number_is_line}
use Rattle.report_reader.proofs.PartLines.{change_whole, change_told, some_parts, zero_jet, zero_part}
use Rattle.report_reader.proofs.Matrix.{rows_told, matrix_whole, some_elements}
use Rattle.row_reader.specs.Values.{AreElements}

-- ---- a value made of its blocks

unfoldable pub made : Frame → Parts → List Element → JetTerms Element → Carried
made f p es jet = record {
  names = p.names;
  algebra = f.algebra;
  order = f.order;
  corank = f.corank;
  change = record { n = length p.names; order = f.order; parts = p.parts; inverse = es };
  jet = jet;
}

pub made_framed : (f : Frame) (p : Parts) (es : List Element) (jet : JetTerms Element) → IsFrame f → AreParts f p → AreElements f.algebra (length p.names * length p.names) es → IsJetOf (length p.names) f.order f.algebra jet → IsFramed f (made f p es jet)
unfolding made
made_framed f p es jet w hp hm hj = record {
  valid = record {
    some_name = hp.some_name;
    few_names = hp.few_names;
    names = hp.parts.names;
    algebra = w.algebra;
    order_at_least = w.order_at_least;
    order_at_most = w.order_at_most;
    corank = hp.corank;
    change_variables = refl;
    change_order = refl;
    parts_count = hp.parts.count;
    parts = hp.parts.parts;
    matrix_size = hm.count_is;
    matrix = hm.elements;
    jet = hj;
  };
  order = refl;
  algebra = refl;
  corank = refl;
}

pub some_framed : (f : Frame) → IsFrame f → (c : Carried) × IsFramed f c
some_framed f w =
    let p = some_parts f w in
    let m = some_elements f.algebra (length p.0.names * length p.0.names) in
    let n = length p.0.names in
    (made f p.0 m.0 (zero_jet n f.order), made_framed f p.0 m.0 (zero_jet n f.order) w p.1 m.1 (zero_part n f.order f.algebra).jet)

-- ---- behind the line `change`

parts_in : (f : Frame) (c : Carried) → IsFramed f c → AreParts f (parts_of c)
parts_in f c h =
    let v = h.valid in
    let corank = v.corank in
    let same = h.corank in
    record {
      some_name = v.some_name;
      few_names = v.few_names;
      corank = omega (arith, corank, same);
      parts = record {
        names = v.names;
        count = v.parts_count;
        parts = subst (λ (k : ℕ). AllByRecursion (IsPartOf (length c.names) k f.algebra) c.change.parts) h.order (subst (λ (a : Algebra). AllByRecursion (IsPartOf (length c.names) c.order a) c.change.parts) h.algebra v.parts);
      };
    }

abbrev jet_rest : Word → Carried → List ℕ
jet_rest word c = word_line word (jet_text c.jet)

abbrev matrix_rest : Word → Carried → List ℕ
matrix_rest word c = rows_text c.change.n c.change.n c.change.inverse ++ jet_rest word c

-- the parts, in front of the matrix
pub parts_pair : (f : Frame) (word : Word) → IsFrame f → IsPair (AreParts f) change_text (λ p c. IsFramed f c × (parts_of c ≡ p)) (matrix_rest word) (IsFramed f) (change_rest word)
unfolding change_rest made
parts_pair f word w = field_pair (AreParts f) change_text (IsFramed f) (change_rest word) parts_of (matrix_rest word) (λ p h. change_whole f p w h) (change_told f w)
    (λ p h. let m = some_elements f.algebra (length p.names * length p.names) in let j = zero_jet (length p.names) f.order in (made f p m.0 j, made_framed f p m.0 j w h m.1 (zero_part (length p.names) f.order f.algebra).jet, refl))
    (parts_in f) (λ c h. refl)

abbrev pub HasParts : Frame → Parts → Carried → Type 0
HasParts f p c = IsFramed f c × (parts_of c ≡ p)

-- the matrix, in front of the jet
pub matrix_pair : (f : Frame) (p : Parts) (word : Word) → IsFrame f → AreParts f p
    → IsPair (AreElements f.algebra (length p.names * length p.names)) (rows_text (length p.names) (length p.names)) (λ es c. HasParts f p c × (c.change.inverse ≡ es)) (jet_rest word) (HasParts f p) (matrix_rest word)
unfolding made
matrix_pair f p word w hp = field_pair (AreElements f.algebra (length p.names * length p.names)) (rows_text (length p.names) (length p.names)) (HasParts f p) (matrix_rest word) (λ c. c.change.inverse) (jet_rest word)
    (λ es h. matrix_whole f (length p.names) (length p.names) es h) (rows_told f (length p.names) (length p.names))
    (λ es h. let j = zero_jet (length p.names) f.order in (made f p es j, (made_framed f p es j w hp h (zero_part (length p.names) f.order f.algebra).jet, refl), refl))
    (λ c h.
    let names : length c.names ≡ length p.names = ap (λ (q : Parts). length q.names) h.1 in
    record { count_is = h.0.valid.matrix_size ∙ ap (λ (k : ℕ). k * k) names; elements = subst (λ (a : Algebra). IsTrue (list_all (is_element a) c.change.inverse)) h.0.algebra h.0.valid.matrix })
    (λ c h. ap (λ (k : ℕ). rows_text k k c.change.inverse ++ jet_rest word c) (h.0.valid.change_variables ∙ ap (λ (q : Parts). length q.names) h.1))

abbrev pub HasMatrix : Frame → Parts → List Element → Carried → Type 0
HasMatrix f p es c = HasParts f p c × (c.change.inverse ≡ es)

jet_in : (f : Frame) (p : Parts) (c : Carried) → HasParts f p c → IsJetOf (length p.names) f.order f.algebra c.jet
jet_in f p c h =
    let names : length c.names ≡ length p.names = ap (λ (q : Parts). length q.names) h.1 in
    subst (λ (n : ℕ). IsJetOf n f.order f.algebra c.jet) names (subst (λ (k : ℕ). IsJetOf (length c.names) k f.algebra c.jet) h.0.order (subst (λ (a : Algebra). IsJetOf (length c.names) c.order a c.jet) h.0.algebra h.0.valid.jet))

-- ---- stops behind the line `change`

pub stop_in_parts : (f : Frame) (word : Word) (bytes : List ℕ) (left : ℕ) → IsFrame f → IsStop (AreParts f) change_text bytes left → IsStop (IsFramed f) (change_rest word) bytes left
stop_in_parts f word bytes left w s = pair_first (AreParts f) change_text (HasParts f) (matrix_rest word) (IsFramed f) (change_rest word) bytes left (parts_pair f word w) s

pub stop_in_matrix : (f : Frame) (p : Parts) (n : ℕ) (word : Word) (bytes rest : List ℕ) (left : ℕ) → IsFrame f → n ≡ length p.names → AreParts f p → change_text p ++ rest ≡ bytes
    → IsStop (AreElements f.algebra (n * n)) (rows_text n n) rest left → IsStop (IsFramed f) (change_rest word) bytes left
stop_in_matrix f p n word bytes rest left w size hp e s =
    let own = subst (λ (k : ℕ). IsStop (AreElements f.algebra (k * k)) (rows_text k k) rest left) size s in
    pair_second (AreParts f) change_text (HasParts f) (matrix_rest word) (IsFramed f) (change_rest word) p bytes rest left (parts_pair f word w) hp e
    (pair_first (AreElements f.algebra (length p.names * length p.names)) (rows_text (length p.names) (length p.names)) (HasMatrix f p) (jet_rest word) (HasParts f p) (matrix_rest word) rest left (matrix_pair f p word w hp) own)

jet_stop : (f : Frame) (p : Parts) (es : List Element) (word : Word) (bytes rest last : List ℕ) → IsFrame f → AreParts f p → change_text p ++ rest ≡ bytes → AreElements f.algebra (length p.names * length p.names) es → rows_text (length p.names) (length p.names) es ++ last ≡ rest
    → IsNotAtFront (IsJetOf (length p.names) f.order f.algebra) (λ g. word_line word (jet_text g)) last → IsStop (IsFramed f) (change_rest word) bytes (length last)
unfolding made
jet_stop f p es word bytes rest last w hp e hm d none =
    let n = length p.names in
    let le = w.order_at_most in
    pair_second (AreParts f) change_text (HasParts f) (matrix_rest word) (IsFramed f) (change_rest word) p bytes rest (length last) (parts_pair f word w) hp e
    (pair_second (AreElements f.algebra (n * n)) (rows_text n n) (HasMatrix f p) (jet_rest word) (HasParts f p) (matrix_rest word) es rest last (length last) (matrix_pair f p word w hp) hm d
    (stop_before (IsJetOf n f.order f.algebra) (λ g. word_line word (jet_text g)) (HasMatrix f p es) (jet_rest word) last (length last)
    (λ g h. (made f p es g, ((made_framed f p es g w hp hm h, refl), refl), ([], sym (append-nil (word_line word (jet_text g))))))
    (λ c h. (c.jet, jet_in f p c h.0, ([], sym (append-nil (word_line word (jet_text c.jet))))))
    (line_stop (IsJetOf n f.order f.algebra) (λ g. word_line word (jet_text g)) last (zero_jet n f.order) (zero_part n f.order f.algebra).jet
    (λ g h. line-word_line word (jet_text g) (jet_clean n f.order f.algebra le g h)) none)))

pub stop_at_jet : (f : Frame) (p : Parts) (n : ℕ) (es : List Element) (word : Word) (bytes rest last : List ℕ) → IsFrame f → n ≡ length p.names → AreParts f p → change_text p ++ rest ≡ bytes → AreElements f.algebra (n * n) es → rows_text n n es ++ last ≡ rest
    → IsNotAtFront (IsJetOf n f.order f.algebra) (λ g. word_line word (jet_text g)) last → IsStop (IsFramed f) (change_rest word) bytes (length last)
stop_at_jet f p n es word bytes rest last w size hp e hm d none =
    jet_stop f p es word bytes rest last w hp e (subst (λ (k : ℕ). AreElements f.algebra (k * k) es) size hm) (ap (λ (k : ℕ). rows_text k k es ++ last) (sym size) ∙ d) (subst (λ (k : ℕ). IsNotAtFront (IsJetOf k f.order f.algebra) (λ g. word_line word (jet_text g)) last) size none)

-- the three blocks
pub change_read : (f : Frame) (p : Parts) (es : List Element) (jet : JetTerms Element) (word : Word) (bytes rest last end : List ℕ) → change_text p ++ rest ≡ bytes → rows_text (length p.names) (length p.names) es ++ last ≡ rest → word_line word (jet_text jet) ++ end ≡ last
    → change_rest word (made f p es jet) ++ end ≡ bytes
unfolding change_rest made
change_read f p es jet word bytes rest last end a b c =
    append_assoc (change_text p) (rows_text (length p.names) (length p.names) es ++ word_line word (jet_text jet)) end ∙ ap (λ (z : List ℕ). change_text p ++ z)
    (append_assoc (rows_text (length p.names) (length p.names) es) (word_line word (jet_text jet)) end ∙ ap (λ (z : List ℕ). rows_text (length p.names) (length p.names) es ++ z) c ∙ b) ∙ a

pub change_done : (f : Frame) (p : Parts) (n : ℕ) (es : List Element) (jet : JetTerms Element) (c : Carried) (word : Word) (bytes rest last end : List ℕ) → IsFrame f → n ≡ length p.names → c ≡ made f p es jet
    → AreParts f p → change_text p ++ rest ≡ bytes → AreElements f.algebra (n * n) es → rows_text n n es ++ last ≡ rest → IsJetOf n f.order f.algebra jet → word_line word (jet_text jet) ++ end ≡ last
    → IsFramed f c × (change_rest word c ++ end ≡ bytes)
change_done f p n es jet c word bytes rest last end w size same hp a hm b hj d = (
  subst (IsFramed f) (sym same) (made_framed f p es jet w hp (subst (λ (k : ℕ). AreElements f.algebra (k * k) es) size hm) (subst (λ (k : ℕ). IsJetOf k f.order f.algebra jet) size hj)),
  ap (λ (z : Carried). change_rest word z ++ end) same ∙ change_read f p es jet word bytes rest last end a (ap (λ (k : ℕ). rows_text k k es ++ last) (sym size) ∙ b) d,
)

-- ---- the lines before

rest3 : Word → Carried → List ℕ
rest3 word c = line (word_text words.Change) ++ change_rest word c

rest2 : Word → Carried → List ℕ
rest2 word c = word_line words.Corank (decimal c.corank) ++ rest3 word c

rest1 : Word → Carried → List ℕ
rest1 word c = word_line words.Algebra (algebra_text c.algebra) ++ rest2 word c

carried_split : (word : Word) (c : Carried) → carried_text word c ≡ word_line words.Order (decimal c.order) ++ rest1 word c
unfolding rest1 rest2 rest3 carried_text change_rest change_text
carried_split word c = simp append_assoc

abbrev HasOrder : ℕ → Carried → Type 0
HasOrder k c = IsWellFormedCarried c × (c.order ≡ k)

abbrev HasAlgebra : ℕ → Algebra → Carried → Type 0
HasAlgebra k a c = HasOrder k c × (c.algebra ≡ a)

abbrev HasCorank : ℕ → Algebra → ℕ → Carried → Type 0
HasCorank k a r c = HasAlgebra k a c × (c.corank ≡ r)

algebra_is_line : (a : Algebra) → IsTrue (is_algebra a) → IsLine (word_line words.Algebra (algebra_text a))
algebra_is_line a h = line-word_line words.Algebra (algebra_text a) (algebra_clean a h)

frame_of : ℕ → Algebra → ℕ → Frame
frame_of k a r = record { order = k; algebra = a; corank = r }

is_frame_of : (k : ℕ) (a : Algebra) (r : ℕ) → IsWithin 2 16 k → is_algebra a ≡ true → r ≤ 8 → IsFrame (frame_of k a r)
unfolding frame_of
is_frame_of k a r h i le = record { order_at_least = h.0; order_at_most = h.1; algebra = i; corank = le }

some_corank : (k : ℕ) (a : Algebra) (r : ℕ) → IsWithin 2 16 k → is_algebra a ≡ true → r ≤ 8 → (c : Carried) × HasCorank k a r c
unfolding frame_of
some_corank k a r h i le = let c = some_framed (frame_of k a r) (is_frame_of k a r h i le) in (c.0, (((c.1.valid, c.1.order), c.1.algebra), c.1.corank))

rational_valid : is_algebra Rational ≡ true
unfolding is_algebra
rational_valid = refl

order_pair : (word : Word) → IsPair (IsWithin 2 16) (λ k. word_line words.Order (decimal k)) (λ k c. IsWellFormedCarried c × (c.order ≡ k)) (rest1 word) IsWellFormedCarried (carried_text word)
order_pair word = field_pair (IsWithin 2 16) (λ k. word_line words.Order (decimal k)) IsWellFormedCarried (carried_text word) (λ c. c.order) (rest1 word)
    (λ k h. whole-line (word_line words.Order (decimal k)) (number_is_line words.Order 2 16 (lit< tt) k h)) (numbers_told words.Order 2 16 (lit< tt))
    (λ k h. let c = some_corank k Rational 0 h rational_valid (omega arith) in (c.0, c.1.0.0.0, c.1.0.0.1))
    (λ c h. (h.order_at_least, h.order_at_most)) (λ c h. carried_split word c)

algebra_pair : (word : Word) (k : ℕ) → IsWithin 2 16 k → IsPair (λ a. IsTrue (is_algebra a)) (λ a. word_line words.Algebra (algebra_text a)) (λ a c. HasOrder k c × (c.algebra ≡ a)) (rest2 word) (HasOrder k) (rest1 word)
unfolding rest1
algebra_pair word k h = field_pair (λ a. IsTrue (is_algebra a)) (λ a. word_line words.Algebra (algebra_text a)) (HasOrder k) (rest1 word) (λ c. c.algebra) (rest2 word)
    (λ a i. whole-line (word_line words.Algebra (algebra_text a)) (algebra_is_line a i)) (record { one = λ a b x y oa ob e. algebra_line words.Algebra a b x y oa ob e })
    (λ a i. let c = some_corank k a 0 h i (omega arith) in (c.0, c.1.0.0, c.1.0.1))
    (λ c v. v.0.algebra) (λ c v. refl)

corank_pair : (word : Word) (k : ℕ) (a : Algebra) → IsWithin 2 16 k → is_algebra a ≡ true → IsPair (IsWithin 0 8) (λ r. word_line words.Corank (decimal r)) (λ r c. HasAlgebra k a c × (c.corank ≡ r)) (rest3 word) (HasAlgebra k a) (rest2 word)
unfolding rest2
corank_pair word k a h i = field_pair (IsWithin 0 8) (λ r. word_line words.Corank (decimal r)) (HasAlgebra k a) (rest2 word) (λ c. c.corank) (rest3 word)
    (λ r q. whole-line (word_line words.Corank (decimal r)) (number_is_line words.Corank 0 8 (lit< tt) r q)) (numbers_told words.Corank 0 8 (lit< tt))
    (λ r q. let c = some_corank k a r h i q.1 in (c.0, c.1.0, c.1.1))
    (λ c v. let le = v.0.0.corank in let few = v.0.0.few_names in (omega arith, omega (arith, le, few))) (λ c v. refl)

-- ---- stops in the first four lines

pub stop_at_order : (word : Word) (bytes : List ℕ) → IsNotAtFront (IsWithin 2 16) (λ k. word_line words.Order (decimal k)) bytes → IsStop IsWellFormedCarried (carried_text word) bytes (length bytes)
stop_at_order word bytes none = pair_first (IsWithin 2 16) (λ k. word_line words.Order (decimal k)) HasOrder (rest1 word) IsWellFormedCarried (carried_text word) bytes (length bytes) (order_pair word)
    (line_stop (IsWithin 2 16) (λ k. word_line words.Order (decimal k)) bytes 2 (omega arith, omega arith) (number_is_line words.Order 2 16 (lit< tt)) none)

behind_order : (word : Word) (k : ℕ) (bytes rest : List ℕ) (left : ℕ) → IsWithin 2 16 k → word_line words.Order (decimal k) ++ rest ≡ bytes → IsStop (HasOrder k) (rest1 word) rest left → IsStop IsWellFormedCarried (carried_text word) bytes left
behind_order word k bytes rest left h e s = pair_second (IsWithin 2 16) (λ k. word_line words.Order (decimal k)) HasOrder (rest1 word) IsWellFormedCarried (carried_text word) k bytes rest left (order_pair word) h e s

pub stop_at_algebra : (word : Word) (k : ℕ) (bytes rest : List ℕ) → IsWithin 2 16 k → word_line words.Order (decimal k) ++ rest ≡ bytes → IsNotAtFront (λ a. IsTrue (is_algebra a)) (λ a. word_line words.Algebra (algebra_text a)) rest
    → IsStop IsWellFormedCarried (carried_text word) bytes (length rest)
stop_at_algebra word k bytes rest h e none = behind_order word k bytes rest (length rest) h e
    (pair_first (λ a. IsTrue (is_algebra a)) (λ a. word_line words.Algebra (algebra_text a)) (HasAlgebra k) (rest2 word) (HasOrder k) (rest1 word) rest (length rest) (algebra_pair word k h)
    (line_stop (λ a. IsTrue (is_algebra a)) (λ a. word_line words.Algebra (algebra_text a)) rest Rational rational_valid algebra_is_line none))

behind_algebra : (word : Word) (k : ℕ) (a : Algebra) (bytes one two : List ℕ) (left : ℕ) → IsWithin 2 16 k → word_line words.Order (decimal k) ++ one ≡ bytes → is_algebra a ≡ true → word_line words.Algebra (algebra_text a) ++ two ≡ one
    → IsStop (HasAlgebra k a) (rest2 word) two left → IsStop IsWellFormedCarried (carried_text word) bytes left
behind_algebra word k a bytes one two left h e i f s = behind_order word k bytes one left h e
    (pair_second (λ a. IsTrue (is_algebra a)) (λ a. word_line words.Algebra (algebra_text a)) (HasAlgebra k) (rest2 word) (HasOrder k) (rest1 word) a one two left (algebra_pair word k h) i f s)

pub stop_at_corank : (word : Word) (k : ℕ) (a : Algebra) (bytes one two : List ℕ) → IsWithin 2 16 k → word_line words.Order (decimal k) ++ one ≡ bytes → is_algebra a ≡ true → word_line words.Algebra (algebra_text a) ++ two ≡ one
    → IsNotAtFront (IsWithin 0 8) (λ r. word_line words.Corank (decimal r)) two → IsStop IsWellFormedCarried (carried_text word) bytes (length two)
stop_at_corank word k a bytes one two h e i f none = behind_algebra word k a bytes one two (length two) h e i f
    (pair_first (IsWithin 0 8) (λ r. word_line words.Corank (decimal r)) (HasCorank k a) (rest3 word) (HasAlgebra k a) (rest2 word) two (length two) (corank_pair word k a h i)
    (line_stop (IsWithin 0 8) (λ r. word_line words.Corank (decimal r)) two 0 (omega arith, omega arith) (number_is_line words.Corank 0 8 (lit< tt)) none))

-- the first three lines were read
pub record FrameRead (f : Frame) (bytes three : List ℕ) : Type 0 where
  pub one : List ℕ
  pub two : List ℕ
  pub order : IsWithin 2 16 f.order
  pub algebra : is_algebra f.algebra ≡ true
  pub corank : IsWithin 0 8 f.corank
  pub order_line : word_line words.Order (decimal f.order) ++ one ≡ bytes
  pub algebra_line : word_line words.Algebra (algebra_text f.algebra) ++ two ≡ one
  pub corank_line : word_line words.Corank (decimal f.corank) ++ three ≡ two

behind_corank : (word : Word) (f : Frame) (bytes three : List ℕ) (left : ℕ) → FrameRead f bytes three → IsStop (HasCorank f.order f.algebra f.corank) (rest3 word) three left → IsStop IsWellFormedCarried (carried_text word) bytes left
behind_corank word f bytes three left r s = behind_algebra word f.order f.algebra bytes r.one r.two left r.order r.order_line r.algebra r.algebra_line
    (pair_second (IsWithin 0 8) (λ r. word_line words.Corank (decimal r)) (HasCorank f.order f.algebra) (rest3 word) (HasAlgebra f.order f.algebra) (rest2 word) f.corank r.two three left (corank_pair word f.order f.algebra r.order r.algebra) r.corank r.corank_line s)

pub stop_at_change : (word : Word) (f : Frame) (bytes three : List ℕ) → FrameRead f bytes three → ((more : List ℕ) → line (word_text words.Change) ++ more ≡ three → ⊥) → IsStop IsWellFormedCarried (carried_text word) bytes (length three)
unfolding rest3
stop_at_change word f bytes three r none = behind_corank word f bytes three (length three) r
    (let c = some_corank f.order f.algebra f.corank r.order r.algebra r.corank.1 in
    stop_here (HasCorank f.order f.algebra f.corank) (rest3 word) three c.0 c.1
    (λ d h. record { first = line (word_text words.Change); tail = change_rest word d; line = line-word words.Change; is = refl; never = none }))

framed_from : (f : Frame) (c : Carried) → HasCorank f.order f.algebra f.corank c → IsFramed f c
framed_from f c h = record { valid = h.0.0.0; order = h.0.0.1; algebra = h.0.1; corank = h.1 }

pub stop_behind_change : (word : Word) (f : Frame) (bytes three four : List ℕ) (left : ℕ) → FrameRead f bytes three → line (word_text words.Change) ++ four ≡ three → IsStop (IsFramed f) (change_rest word) four left → IsStop IsWellFormedCarried (carried_text word) bytes left
unfolding rest3
stop_behind_change word f bytes three four left r e s = behind_corank word f bytes three left r
    (stop_behind (HasCorank f.order f.algebra f.corank) (rest3 word) (IsFramed f) (change_rest word) three (line (word_text words.Change)) four left (whole-line (line (word_text words.Change)) (line-word words.Change)) e
    (λ c h. (c, (((h.valid, h.order), h.algebra), h.corank), refl))
    (λ c x y h q. (c, framed_from f c h, refl)) s)

pub carried_read : (word : Word) (f : Frame) (c : Carried) (bytes three four end : List ℕ) → FrameRead f bytes three → line (word_text words.Change) ++ four ≡ three → IsFramed f c → change_rest word c ++ end ≡ four → IsWellFormedCarried c × (carried_text word c ++ end ≡ bytes)
unfolding rest1 rest2 rest3
carried_read word f c bytes three four end r e h d = (
  h.valid,
  ap (λ (z : List ℕ). z ++ end) (carried_split word c) ∙ append_assoc (word_line words.Order (decimal c.order)) (rest1 word c) end
      ∙ ap (λ (z : List ℕ). word_line words.Order (decimal c.order) ++ z) (append_assoc (word_line words.Algebra (algebra_text c.algebra)) (rest2 word c) end
      ∙ ap (λ (z : List ℕ). word_line words.Algebra (algebra_text c.algebra) ++ z) (append_assoc (word_line words.Corank (decimal c.corank)) (rest3 word c) end
      ∙ ap (λ (z : List ℕ). word_line words.Corank (decimal c.corank) ++ z) (append_assoc (line (word_text words.Change)) (change_rest word c) end ∙ ap (λ (z : List ℕ). line (word_text words.Change) ++ z) d ∙ e)
      ∙ ap (λ (k : ℕ). word_line words.Corank (decimal k) ++ three) h.corank ∙ r.corank_line)
      ∙ ap (λ (a : Algebra). word_line words.Algebra (algebra_text a) ++ r.two) h.algebra ∙ r.algebra_line)
      ∙ ap (λ (k : ℕ). word_line words.Order (decimal k) ++ r.one) h.order ∙ r.order_line,
)

pub carried_told : (word : Word) → IsSelfEnding IsWellFormedCarried (carried_text word)
carried_told word = record { one = λ a b x y oa ob e. carried_one word a b x y oa ob e }

pub carried_whole : (word : Word) (c : Carried) → IsWellFormedCarried c → IsWholeLines (carried_text word c)
unfolding rest1 rest2 rest3 change_rest
carried_whole word c h =
    let f : Frame = record { order = c.order; algebra = c.algebra; corank = c.corank } in
    let le = h.corank in
    let few = h.few_names in
    let w : IsFrame f = record { order_at_least = h.order_at_least; order_at_most = h.order_at_most; algebra = h.algebra; corank = omega (arith, le, few) } in
    let is : IsFramed f c = record { valid = h; order = refl; algebra = refl; corank = refl } in
    let parts = parts_in f c is in
    let low = h.order_at_most in
    let jet = whole-line (word_line word (jet_text c.jet)) (line-word_line word (jet_text c.jet) (jet_clean (length c.names) c.order c.algebra low c.jet h.jet)) in
    let size : length c.change.inverse ≡ c.change.n * c.change.n = h.matrix_size ∙ sym (ap (λ (k : ℕ). k * k) h.change_variables) in
    let matrix = whole-append (rows_text c.change.n c.change.n c.change.inverse) (word_line word (jet_text c.jet)) (matrix_whole f c.change.n c.change.n c.change.inverse (record { count_is = size; elements = h.matrix })) jet in
    let change = whole-append (change_text (parts_of c)) (rows_text c.change.n c.change.n c.change.inverse ++ word_line word (jet_text c.jet)) (change_whole f (parts_of c) w parts) matrix in
    let three = whole-append (line (word_text words.Change)) (change_rest word c) (whole-line (line (word_text words.Change)) (line-word words.Change)) change in
    let two = whole-append (word_line words.Corank (decimal c.corank)) (rest3 word c) (whole-line (word_line words.Corank (decimal c.corank)) (number_is_line words.Corank 0 8 (lit< tt) c.corank (omega arith, omega (arith, le, few)))) three in
    let one = whole-append (word_line words.Algebra (algebra_text c.algebra)) (rest2 word c) (whole-line (word_line words.Algebra (algebra_text c.algebra)) (algebra_is_line c.algebra h.algebra)) two in
    subst IsWholeLines (sym (carried_split word c)) (whole-append (word_line words.Order (decimal c.order)) (rest1 word c) (whole-line (word_line words.Order (decimal c.order)) (number_is_line words.Order 2 16 (lit< tt) c.order (h.order_at_least, h.order_at_most))) one)

pub some_carried : (c : Carried) × IsWellFormedCarried c
some_carried = let c = some_corank 2 Rational 0 (omega arith, omega arith) rational_valid (omega arith) in (c.0, c.1.0.0.0)
