use Rattle.std.proofs.Common.{refl}
use Rattle.std.proofs.lemmas.Result.{IfOk-weaker}
use Rattle.cert_text.specs.declared.word.Word.TheVariants as words
use Rattle.cert_text.specs.Text.{carried_text, unit_text}
use Rattle.cert_text.specs.WellFormed.{IsWellFormedCarried}
use Rattle.row_reader.specs.Values.{IsUnitPair}
use Rattle.report_reader.specs.declared.named.Front.{Front}
use Rattle.report_reader.specs.Rows.{AreAtMost, counted_text}
use Rattle.report_reader.specs.Evidence.{IsOfFamily, IsNamedAs, named_rest, mather_rest}
use Rattle.report_reader.proofs.Found.{err_map}
use Rattle.report_reader.proofs.Stops.{halt_map}
use Rattle.report_reader.proofs.NamedLines.{ModulusRead, stop_in_carried, stop_in_units, stop_at_modulus, stop_at_milnor, stop_in_evidence, named_read}
use Rattle.report_reader.proofs.named.read_named.Goals as goal

pub returns-in-Err-clause-halt : goal.returns-in-Err-clause-halt
returns-in-Err-clause-halt c = halt_map IsWellFormedCarried (carried_text words.Form) c.args.bytes.now (IsOfFamily c.args.family) named_rest c.args.bytes.now
    (λ left s. stop_in_carried c.args.family c.args.bytes.now left c.requires.family s) c.in-Err.halt c.in-Err.ensures.halt

pub returns-in-Err-read_units-clause-halt : goal.returns-in-Err-read_units-clause-halt
returns-in-Err-read_units-clause-halt c =
    let a = c.in-Ok.ensures.ok in
    halt_map (AreAtMost (IsUnitPair c.in-Ok.read.0.algebra) 1140) (counted_text words.Units unit_text) c.in-Ok.read.1.now (IsOfFamily c.args.family) named_rest c.args.bytes.now
    (λ left s. stop_in_units c.args.family c.in-Ok.read.0 c.args.bytes.now c.in-Ok.read.1.now left c.requires.family a.0 a.1 s) c.in-Err-read_units.halt c.in-Err-read_units.ensures.halt

pub returns-in-None-clause-halt : goal.returns-in-None-clause-halt
returns-in-None-clause-halt c =
    let a = c.in-Ok.ensures.ok in
    let u = c.in-Ok-read_units.ensures.ok in
    stop_at_modulus c.args.family c.in-Ok.read.0 c.in-Ok-read_units.read.0 c.args.bytes.now c.in-Ok.read.1.now c.in-Ok-read_units.read.1.now c.requires.family a.0 a.1 u.0 u.1 (c.in-None.ensures.none refl)

pub returns-in-None-take_number-clause-halt : goal.returns-in-None-take_number-clause-halt
returns-in-None-take_number-clause-halt c =
    let a = c.in-Ok.ensures.ok in
    let u = c.in-Ok-read_units.ensures.ok in
    let m = c.in-Some.ensures.some in
    let read : ModulusRead c.args.family c.in-Ok.read.0 c.in-Ok-read_units.read.0 c.in-Some.taken.0 c.args.bytes.now c.in-Some.taken.1.now = record { one = c.in-Ok.read.1.now; two = c.in-Ok-read_units.read.1.now; of_list = c.requires.family; carried = a.0; carried_lines = a.1; units = u.0; units_lines = u.1; modulus = m.0; modulus_line = m.1 } in
    stop_at_milnor c.args.family c.in-Ok.read.0 c.in-Ok-read_units.read.0 c.in-Some.taken.0 c.args.bytes.now c.in-Some.taken.1.now read (c.in-None-take_number.ensures.none refl)

pub returns-clause-ok : goal.returns-clause-ok
returns-clause-ok c =
    let a = c.in-Ok.ensures.ok in
    let u = c.in-Ok-read_units.ensures.ok in
    let m = c.in-Some.ensures.some in
    let read : ModulusRead c.args.family c.in-Ok.read.0 c.in-Ok-read_units.read.0 c.in-Some.taken.0 c.args.bytes.now c.in-Some.taken.1.now = record { one = c.in-Ok.read.1.now; two = c.in-Ok-read_units.read.1.now; of_list = c.requires.family; carried = a.0; carried_lines = a.1; units = u.0; units_lines = u.1; modulus = m.0; modulus_line = m.1 } in
    let k = c.in-Some-take_number.ensures.some in
    let f : Front = record { family = c.args.family; carried = c.in-Ok.read.0; units = c.in-Ok-read_units.read.0; modulus = c.in-Some.taken.0; milnor = c.in-Some-take_number.taken.0 } in
    IfOk-weaker c.read_evidence.result _ _ (λ p h. named_read f p.0 c.args.bytes.now c.in-Some.taken.1.now c.in-Some-take_number.taken.1.now p.1.now read k.1 h.0 h.1) c.read_evidence.ensures.ok

pub returns-clause-halt : goal.returns-clause-halt
returns-clause-halt c =
    let a = c.in-Ok.ensures.ok in
    let u = c.in-Ok-read_units.ensures.ok in
    let m = c.in-Some.ensures.some in
    let read : ModulusRead c.args.family c.in-Ok.read.0 c.in-Ok-read_units.read.0 c.in-Some.taken.0 c.args.bytes.now c.in-Some.taken.1.now = record { one = c.in-Ok.read.1.now; two = c.in-Ok-read_units.read.1.now; of_list = c.requires.family; carried = a.0; carried_lines = a.1; units = u.0; units_lines = u.1; modulus = m.0; modulus_line = m.1 } in
    let k = c.in-Some-take_number.ensures.some in
    let f : Front = record { family = c.args.family; carried = c.in-Ok.read.0; units = c.in-Ok-read_units.read.0; modulus = c.in-Some.taken.0; milnor = c.in-Some-take_number.taken.0 } in
    err_map c.read_evidence.result (IsNamedAs f) mather_rest c.in-Some-take_number.taken.1.now (IsOfFamily c.args.family) named_rest c.args.bytes.now
    (λ left s. stop_in_evidence f c.args.bytes.now c.in-Some.taken.1.now c.in-Some-take_number.taken.1.now left read k.0 k.1 s) c.read_evidence.ensures.halt
