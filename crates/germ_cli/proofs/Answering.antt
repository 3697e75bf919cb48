-- The texts that are written for lines, one after another.
use Rattle.cert_text.specs.Text.{report_text}
use Rattle.cert_text.specs.declared.report.Report.{Report}
use Rattle.germ_cli.specs.Answers.{IsAnswerText, IsTextFor}
use Rattle.determinator.specs.Lines.{IsAnswer}
use Rattle.germ_cli.specs.Run.{WroteAnswers, WroteFront, texts_of}
use Rattle.line_io.proofs.Handing.{answered_of-append}
use Rattle.line_io.proofs.Known.{Appends-none, Appends-then}
use Rattle.line_io.specs.Bytes.{AppendsFront}
use Rattle.line_io.specs.Lines.{answered_of, is_answered, line_of}
use Rattle.std.proofs.Common.{◌≡◌, ℕ, zero, suc, Bool, true, false, cond, List, [], ◌∷◌, ◌++◌, length, take, drop, refl, ap, sym, subst, ◌∙◌, append_assoc}
use Rattle.std.proofs.lemmas.Grind.{flat_map-append}
use Rattle.std.proofs.lemmas.List.{append-nil, take-append-drop, take_at}
use Rattle.std.specs.Bool.{MatchBool}
use Rattle.std.specs.Io.KnownBytes.{Appends}
use Rattle.std.specs.List.{AllZip}
use Rattle.std.specs.declared.option.Option.{Option}

pub AllZip-snoc : {A B : Type 0} (R : A → B → Type 0) (xs : List A) (ys : List B) (x : A) (y : B) → AllZip R xs ys → R x y → AllZip R (xs ++ x ∷ []) (ys ++ y ∷ [])
AllZip-snoc R [] [] x y p q = (q, tt)
AllZip-snoc R [] (z ∷ zs) x y p q = absurd p
AllZip-snoc R (w ∷ ws) [] x y p q = absurd p
AllZip-snoc R (w ∷ ws) (z ∷ zs) x y p q = (p.0, AllZip-snoc R ws zs x y p.1 q)

texts-snoc : (reports : List Report) (report : Report) → texts_of (reports ++ report ∷ []) ≡ texts_of reports ++ report_text report
texts-snoc reports report =
    flat_map-append report_text reports (report ∷ []) ∙ ap (λ (x : List ℕ). texts_of reports ++ x) (append-nil (report_text report))

-- nothing was written for no line
pub answers_none : (limit : ℕ) (old : Option (List ℕ)) → WroteAnswers limit [] old old
answers_none limit old = record { reports = []; answers = tt; wrote = Appends-none old }

-- the text of one more answer was written
answers_more : (limit : ℕ) (lines : List (List ℕ)) (line text : List ℕ) (old new newer : Option (List ℕ)) → WroteAnswers limit lines old new → IsAnswerText limit line text → Appends new newer text
    → WroteAnswers limit (lines ++ line ∷ []) old newer
answers_more limit lines line text old new newer w t wrote =
    let both : texts_of w.reports ++ text ≡ texts_of (w.reports ++ t.report ∷ []) = ap (λ (x : List ℕ). texts_of w.reports ++ x) t.text_is ∙ sym (texts-snoc w.reports t.report) in
    let P : List ℕ → Type 0 = λ x. Appends old newer x in
    record {
      reports = w.reports ++ t.report ∷ [];
      answers = AllZip-snoc (IsAnswer limit) lines w.reports line t.report w.answers t.answer;
      wrote = subst P both (Appends-then old new newer (texts_of w.reports) text w.wrote wrote);
    }

-- of all lines, those written so far are a front
pub answers_front : (limit : ℕ) (lines more : List (List ℕ)) (old new : Option (List ℕ)) → WroteAnswers limit lines old new → WroteFront limit (lines ++ more) old new
answers_front limit lines more old new w =
    let P : List (List ℕ) → Type 0 = λ x. AllZip (IsAnswer limit) x w.reports in
    record {
      count = length lines;
      reports = w.reports;
      written = texts_of w.reports;
      rest = [];
      answers = subst P (sym (take_at lines more (length lines) refl)) w.answers;
      front = append-nil (texts_of w.reports);
      wrote = w.wrote;
    }

-- a part of the text of one more answer was written
answers_part : (limit : ℕ) (lines more : List (List ℕ)) (line text : List ℕ) (old new newer : Option (List ℕ)) → WroteAnswers limit lines old new → IsAnswerText limit line text → AppendsFront new newer text
    → WroteFront limit ((lines ++ line ∷ []) ++ more) old newer
answers_part limit lines more line text old new newer w t wrote =
    let P : List (List ℕ) → Type 0 = λ x. AllZip (IsAnswer limit) x (w.reports ++ t.report ∷ []) in
    record {
      count = length (lines ++ line ∷ []);
      reports = w.reports ++ t.report ∷ [];
      written = texts_of w.reports ++ take wrote.0 text;
      rest = drop wrote.0 text;
      answers = subst P (sym (take_at (lines ++ line ∷ []) more (length (lines ++ line ∷ [])) refl)) (AllZip-snoc (IsAnswer limit) lines w.reports line t.report w.answers t.answer);
      front =
          append_assoc (texts_of w.reports) (take wrote.0 text) (drop wrote.0 text) ∙ ap (λ (x : List ℕ). texts_of w.reports ++ x) (take-append-drop wrote.0 text ∙ t.text_is)
          ∙ sym (texts-snoc w.reports t.report);
      wrote = Appends-then old new newer (texts_of w.reports) (take wrote.0 text) w.wrote wrote.1;
    }

-- ---- the lines of pieces

nothing_more : (old new newer : Option (List ℕ)) (done text : List ℕ) → Appends old new done → text ≡ [] → Appends new newer text → Appends old newer done
nothing_more old new newer done text p e q =
    let nothing : done ++ text ≡ done = ap (λ (x : List ℕ). done ++ x) e ∙ append-nil done in
    let P : List ℕ → Type 0 = λ x. Appends old newer x in
    subst P nothing (Appends-then old new newer done text p q)

text_more : (t : Bool) (limit : ℕ) (lines : List (List ℕ)) (line text : List ℕ) (old new newer : Option (List ℕ)) → WroteAnswers limit lines old new
    → MatchBool t (IsAnswerText limit line text) (text ≡ []) → Appends new newer text → WroteAnswers limit (lines ++ cond t (line ∷ []) []) old newer
text_more true limit lines line text old new newer w t wrote = answers_more limit lines line text old new newer w t wrote
text_more false limit lines line text old new newer w e wrote =
    let P : List (List ℕ) → Type 0 = λ x. WroteAnswers limit x old newer in
    subst P (sym (append-nil lines)) (record { reports = w.reports; answers = w.answers; wrote = nothing_more old new newer (texts_of w.reports) text w.wrote e wrote })

take-none : (n : ℕ) (xs : List ℕ) → xs ≡ [] → take n xs ≡ []
take-none zero xs e = refl
take-none (suc n) xs e = ap (λ (x : List ℕ). take (suc n) x) e

text_part : (t : Bool) (limit : ℕ) (lines more : List (List ℕ)) (line text : List ℕ) (old new newer : Option (List ℕ)) → WroteAnswers limit lines old new
    → MatchBool t (IsAnswerText limit line text) (text ≡ []) → AppendsFront new newer text → WroteFront limit ((lines ++ cond t (line ∷ []) []) ++ more) old newer
text_part true limit lines more line text old new newer w t wrote = answers_part limit lines more line text old new newer w t wrote
text_part false limit lines more line text old new newer w e wrote =
    let nothing : take wrote.0 text ≡ [] = take-none wrote.0 text e in
    let P : List (List ℕ) → Type 0 = λ x. WroteFront limit (x ++ more) old newer in
    subst P (sym (append-nil lines)) (
    answers_front limit lines more old newer (record { reports = w.reports; answers = w.answers; wrote = nothing_more old new newer (texts_of w.reports) (take wrote.0 text) w.wrote nothing wrote.1 })
    )

-- what was written for the lines of pieces and then for the line of one more
pub piece_more : (limit : ℕ) (pieces : List (List ℕ)) (piece text : List ℕ) (old new newer : Option (List ℕ)) → WroteAnswers limit (answered_of pieces) old new → IsTextFor limit (line_of piece) text
    → Appends new newer text → WroteAnswers limit (answered_of (pieces ++ piece ∷ [])) old newer
piece_more limit pieces piece text old new newer w t wrote =
    let P : List (List ℕ) → Type 0 = λ x. WroteAnswers limit x old newer in
    subst P (sym (answered_of-append pieces (piece ∷ []))) (text_more (is_answered (line_of piece)) limit (answered_of pieces) (line_of piece) text old new newer w t wrote)

-- and for a part of it
pub piece_part : (limit : ℕ) (pieces more : List (List ℕ)) (piece text : List ℕ) (old new newer : Option (List ℕ)) → WroteAnswers limit (answered_of pieces) old new → IsTextFor limit (line_of piece) text
    → AppendsFront new newer text → WroteFront limit (answered_of (pieces ++ piece ∷ []) ++ more) old newer
piece_part limit pieces more piece text old new newer w t wrote =
    let P : List (List ℕ) → Type 0 = λ x. WroteFront limit (x ++ more) old newer in
    subst P (sym (answered_of-append pieces (piece ∷ []))) (text_part (is_answered (line_of piece)) limit (answered_of pieces) more (line_of piece) text old new newer w t wrote)
