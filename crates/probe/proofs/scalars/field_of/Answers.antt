use Rattle.probe.proofs.Fields.{quadratic_field, cubic_field}
use Rattle.probe.proofs.scalars.field_of.Goals as goal

pub returns-in_ok-new-in-Quadratic-clause-field : goal.returns-in_ok-new-in-Quadratic-clause-field
returns-in_ok-new-in-Quadratic-clause-field c =
    let f = c.in_ok-new-in-Quadratic in
    let ring = f.ensures.ring in
    let made = c.quadratic.ensures in
    quadratic_field c.in-Quadratic.m1 c.in-Quadratic.m0 f.field-0.ring.degree f.field-0.ring.m0 f.field-0.ring.m1 f.field-0.ring.m2
    (rw c.in-Quadratic.is at c.requires) (rw ring made.degree) (rw ring made.m1) (rw ring made.m0) f.ensures.valid.no_root

pub returns-in_ok-new-in-Cubic-clause-field : goal.returns-in_ok-new-in-Cubic-clause-field
returns-in_ok-new-in-Cubic-clause-field c =
    let f = c.in_ok-new-in-Cubic in
    let ring = f.ensures.ring in
    let made = c.cubic.ensures in
    cubic_field c.in-Cubic.m2 c.in-Cubic.m1 c.in-Cubic.m0 f.field-0.ring.degree f.field-0.ring.m0 f.field-0.ring.m1 f.field-0.ring.m2
    (rw c.in-Cubic.is at c.requires) (rw ring made.degree) (rw ring made.m2) (rw ring made.m1) (rw ring made.m0) f.ensures.valid.no_root
