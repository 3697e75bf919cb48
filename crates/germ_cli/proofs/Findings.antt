-- The lines that are written for chunks, one after another.
use Rattle.cert_check.specs.Heights.{IsItemHigh}
use Rattle.cert_text.specs.Text.{line}
use Rattle.germ_cli.proofs.Answering.{AllZip-snoc}
use Rattle.germ_cli.specs.Checking.{IsAnswerTo, WroteFindings, WroteFindingsFront, is_invalid, lines_of}
use Rattle.line_io.proofs.Known.{Appends-none, Appends-then}
use Rattle.line_io.specs.Bytes.{AppendsFront}
use Rattle.report_law.specs.Verdicts.{IsVerdict, finding_text, verdict_text}
use Rattle.report_law.specs.declared.item.Item.{Item}
use Rattle.report_law.specs.declared.verdict.Finding.TheVariants as findings
use Rattle.report_law.specs.declared.verdict.Finding.{Finding}
use Rattle.report_law.specs.declared.verdict.Verdict.TheVariants as verdicts
use Rattle.std.proofs.Common.{◌≡◌, ℕ, Bool, true, false, List, [], ◌∷◌, ◌++◌, length, take, drop, refl, ap, sym, subst, ◌∙◌, append_assoc}
use Rattle.std.proofs.lemmas.Grind.{flat_map-append}
use Rattle.std.proofs.lemmas.List.{append-nil, take-append-drop, take_at}
use Rattle.std.specs.Io.KnownBytes.{Appends}
use Rattle.std.specs.List.{AllZip, list_any}
use Rattle.std.specs.Prelude.{◌||◌}
use Rattle.std.specs.declared.option.Option.{Option}

lines-snoc : (found : List Finding) (f : Finding) → lines_of (found ++ f ∷ []) ≡ lines_of found ++ line (finding_text f)
lines-snoc found f = flat_map-append (λ (x : Finding). line (finding_text x)) found (f ∷ []) ∙ ap (λ (x : List ℕ). lines_of found ++ x) (append-nil (line (finding_text f)))

-- nothing was written for no chunk
pub findings_none : (old : Option (List ℕ)) → WroteFindings [] [] old old
findings_none old = record { verdicts = tt; wrote = Appends-none old }

-- the line of one more chunk was written
pub findings_more : (chunks : List (List ℕ)) (found : List Finding) (chunk text : List ℕ) (invalid : Bool) (old new newer : Option (List ℕ)) → WroteFindings chunks found old new → (a : IsAnswerTo chunk text invalid)
    → Appends new newer text → WroteFindings (chunks ++ chunk ∷ []) (found ++ a.found ∷ []) old newer
findings_more chunks found chunk text invalid old new newer w a wrote =
    let both : lines_of found ++ text ≡ lines_of (found ++ a.found ∷ []) = ap (λ (x : List ℕ). lines_of found ++ x) a.text_is ∙ sym (lines-snoc found a.found) in
    let P : List ℕ → Type 0 = λ x. Appends old newer x in
    record {
      verdicts = AllZip-snoc (IsVerdict IsItemHigh) chunks found chunk a.found w.verdicts a.verdict;
      wrote = subst P both (Appends-then old new newer (lines_of found) text w.wrote wrote);
    }

-- of all chunks, the lines written so far are a front
pub findings_front : (chunks more : List (List ℕ)) (found : List Finding) (old new : Option (List ℕ)) → WroteFindings chunks found old new → WroteFindingsFront (chunks ++ more) old new
findings_front chunks more found old new w =
    let P : List (List ℕ) → Type 0 = λ x. AllZip (IsVerdict IsItemHigh) x found in
    record {
      count = length chunks;
      found = found;
      written = lines_of found;
      rest = [];
      verdicts = subst P (sym (take_at chunks more (length chunks) refl)) w.verdicts;
      front = append-nil (lines_of found);
      wrote = w.wrote;
    }

-- a part of the line of one more chunk was written
pub findings_part : (chunks more : List (List ℕ)) (found : List Finding) (chunk text : List ℕ) (invalid : Bool) (old new newer : Option (List ℕ)) → WroteFindings chunks found old new → IsAnswerTo chunk text invalid
    → AppendsFront new newer text → WroteFindingsFront ((chunks ++ chunk ∷ []) ++ more) old newer
findings_part chunks more found chunk text invalid old new newer w a wrote =
    let P : List (List ℕ) → Type 0 = λ x. AllZip (IsVerdict IsItemHigh) x (found ++ a.found ∷ []) in
    record {
      count = length (chunks ++ chunk ∷ []);
      found = found ++ a.found ∷ [];
      written = lines_of found ++ take wrote.0 text;
      rest = drop wrote.0 text;
      verdicts = subst P (sym (take_at (chunks ++ chunk ∷ []) more (length (chunks ++ chunk ∷ [])) refl)) (AllZip-snoc (IsVerdict IsItemHigh) chunks found chunk a.found w.verdicts a.verdict);
      front =
          append_assoc (lines_of found) (take wrote.0 text) (drop wrote.0 text) ∙ ap (λ (x : List ℕ). lines_of found ++ x) (take-append-drop wrote.0 text ∙ a.text_is) ∙ sym (lines-snoc found a.found);
      wrote = Appends-then old new newer (lines_of found) (take wrote.0 text) w.wrote wrote.1;
    }

or_none : (t : Bool) → (t || false) ≡ t
or_none true = refl
or_none false = refl

or_assoc : (r s t : Bool) → (r || (s || t)) ≡ ((r || s) || t)
or_assoc true s t = refl
or_assoc false s t = refl

-- one more line begins with `invalid`, or some line did before
pub any-snoc : (found : List Finding) (f : Finding) → list_any is_invalid (found ++ f ∷ []) ≡ (list_any is_invalid found || is_invalid f)
any-snoc [] f = or_none (is_invalid f)
any-snoc (g ∷ gs) f = ap (λ (t : Bool). is_invalid g || t) (any-snoc gs f) ∙ or_assoc (is_invalid g) (list_any is_invalid gs) (is_invalid f)

-- ---- the lines that begin with `invalid`

pub valid_line : is_invalid (findings.Report verdicts.Valid) ≡ false
unfolding is_invalid finding_text verdict_text
valid_line = refl

pub unchecked_line : is_invalid (findings.Report verdicts.Unchecked) ≡ false
unfolding is_invalid finding_text verdict_text
unchecked_line = refl

pub invalid_line : (item : Item) → is_invalid (findings.Report (verdicts.Invalid item)) ≡ true
unfolding is_invalid finding_text verdict_text
invalid_line item = refl

pub range_line : (item : Item) → is_invalid (findings.Report (verdicts.Range item)) ≡ false
unfolding is_invalid finding_text verdict_text
range_line item = refl

pub bad_text_line : (offset : ℕ) → is_invalid (findings.BadText offset) ≡ true
unfolding is_invalid finding_text
bad_text_line offset = refl
