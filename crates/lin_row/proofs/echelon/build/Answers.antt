use Rattle.lin_row.specs.Lines.{EachOf, AllBelow}
use Rattle.std.proofs.Common.{◌∙◌, ◌<◌, ◌+◌, ◌-◌, sym, subst, arith, length}
use Rattle.lin_row.specs.System.{RowsVanish, against}
use Rattle.lin_row.specs.Rows.{rows_of}
use Rattle.lin_row.proofs.BuildLaws
use Rattle.lin_row.proofs.echelon.build.Goals as goal

pub extended-requires-clause-line : goal.extended-requires-clause-line
extended-requires-clause-line g c =
    BuildLaws.valid-at (g.F.Ring.meaning c.args.field.now) c.args.rows.now (c.loop-k.k - 1) c.index-rows-k.result (omega arith) c.index-rows-k.is c.requires.rows

pub loop-k-preserved : goal.loop-k-preserved
loop-k-preserved g c =
    let m = g.F.Ring.meaning c.args.field.now in
    let laws = (g.met.F.Ring.laws c.args.field.now c.requires.ring).numbers.ring in
    let k = c.loop-k.k - 1 in
    let rows = c.args.rows.now in
    let row = c.index-rows-k.result in
    let within : k < length rows = omega arith in
    let old = c.loop-k.invariant.system in
    let same = rw c.deref.ensures.value at c.in_ok-left.ensures.same in
    let vanish = rw c.deref-in-loop-k.ensures.value at c.in_ok-add_pivot.ensures.vanish in
    let covers = rw c.deref-in-loop-k.ensures.value at c.in_ok-add_pivot.ensures.covers in
    record {
      within = omega arith;
      system = record {
        echelon = c.in_ok-add_pivot.ensures.pivots;
        evidence = λ w. vanish (against m 4294967296 (rows_of rows) w) (old.evidence w)
            (same (against m 4294967296 (rows_of rows) w) (old.evidence w)
            ∙ BuildLaws.own_zero m laws (rows_of rows) 4294967296 k row.entries c.in_ok-row.row.items w (omega (arith, BuildLaws.rows-length rows)) (BuildLaws.rows-at rows k row within c.index-rows-k.is) c.in_ok-row.ensures.below (c.in_ok-row.ensures.value (against m 4294967296 (rows_of rows) w)));
        low = subst (EachOf (AllBelow 4294967296)) (sym (BuildLaws.rows-next rows k c.loop-k.k row within (omega arith) c.index-rows-k.is)) (c.in_ok-row.ensures.below, old.low);
        below = c.in_ok-add_pivot.ensures.below;
        spans = λ w none all.
            let before = c.in_ok-add_pivot.ensures.keeps w all in
            subst (λ rs. RowsVanish m rs w) (sym (BuildLaws.rows-next rows k c.loop-k.k row within (omega arith) c.index-rows-k.is)) (
              BuildLaws.row_zero m laws row.entries c.in_ok-row.row.items c.in_ok-left.left.items w (w (4294967296 + k)) (c.in_ok-row.ensures.value w) (none (4294967296 + k) (omega arith)) (same w before) (covers w none all),
              old.spans w none before,
            );
      };
    }

pub led-requires-clause-below : goal.led-requires-clause-below
led-requires-clause-below g c = rw c.deref.ensures.value c.loop-k.invariant.system.below

pub add_pivot-requires-clause-absent : goal.add_pivot-requires-clause-absent
add_pivot-requires-clause-absent g c = rw (c.deref-in-loop-k.ensures.value, ← c.deref.ensures.value) c.in_ok-left.ensures.absent
