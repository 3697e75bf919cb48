use Rattle.std.proofs.Common.{◌≡◌, ◌<◌, ◌≤◌, length, get_or, sym, ap, subst, ◌∙◌, arith}
use Rattle.jet_law.specs.Terms.{exp_of}
use Rattle.check_quotient.proofs.Lookups.{value_past, value_short, value_read}
use Rattle.check_quotient.proofs.lookup.value_at.Goals as goal

pub returns-then-place-table-clause-value : goal.returns-then-place-table-clause-value
returns-then-place-table-clause-value g c =
    let m = g.R.Ring.meaning c.args.ring.now in
    let past : length c.args.table.now ≤ c.place_of-place.result = omega arith in
    c.zero.ensures.value ∙ sym (value_past m c.args.n c.args.table.now (exp_of c.args.n c.args.a) c.place_of-place.result c.args.j c.place_of-place.ensures.place past)

pub returns-then-j-values-clause-value : goal.returns-then-j-values-clause-value
returns-then-j-values-clause-value g c =
    let m = g.R.Ring.meaning c.args.ring.now in
    let row = c.index-table-place.result in
    let short : length row.values ≤ c.args.j = subst (λ z. length z ≤ c.args.j) c.as_slice-values.ensures c.if-j-values.true in
    c.zero-then-j-values.ensures.value
    ∙ sym (value_short m c.args.n c.args.table.now (exp_of c.args.n c.args.a) c.place_of-place.result c.args.j row c.place_of-place.ensures.place c.if-place-table.false c.index-table-place.is short)

pub returns-clause-value : goal.returns-clause-value
returns-clause-value g c =
    let m = g.R.Ring.meaning c.args.ring.now in
    let row = c.index-table-place.result in
    let x = c.index-values-j.result in
    let within : c.args.j < length row.values = subst (λ z. c.args.j < length z) c.as_slice-values.ensures c.if-j-values.false in
    let read : x ≡ get_or row.values c.args.j x = c.index-values-j.is ∙ ap (λ z. get_or z c.args.j x) c.as_slice-values.ensures in
    value_read m c.args.n c.args.table.now (exp_of c.args.n c.args.a) c.place_of-place.result c.args.j row x c.place_of-place.ensures.place c.if-place-table.false c.index-table-place.is within read
