use Rattle.std.proofs.Common.{◌^◌, ◌≤◌, unsigned_abs, arith}
use Rattle.std.proofs.lemmas.Int.{to_z_pos}
use mir.Syntax.{w128}
use Rattle.root_search.proofs.LeastRoot.{near}
use Rattle.small_frac.proofs.Parts.{kept}
use Rattle.small_frac.proofs.CubicRoots.{no_root, made}
use Rattle.small_frac.proofs.root.rational_root_cubic.Goals as goal

pub returns-in-None-clause-root : goal.returns-in-None-clause-root
returns-in-None-clause-root c =
    let r = c.requires in
    let a = c.args in
    let s = c.in-Some.scaled in
    let h = c.in-Some.ensures in
    let fa = let k = h.small.a_small in kept s.a (omega arith) in
    let fb = let k = h.small.b_small in kept s.b (omega arith) in
    let fc = let k = h.small.c_small in kept s.c (omega arith) in
    no_root a.m2 a.m1 a.m0 r.m2_valid r.m1_valid r.m0_valid s h (rw (fa, fb, fc) at c.in-None.ensures)

pub returns-in-Some-least_root-clause-root : goal.returns-in-Some-least_root-clause-root
returns-in-Some-least_root-clause-root c =
    let r = c.requires in
    let a = c.args in
    let s = c.in-Some.scaled in
    let h = c.in-Some.ensures in
    let fa = let k = h.small.a_small in kept s.a (omega arith) in
    let fb = let k = h.small.b_small in kept s.b (omega arith) in
    let fc = let k = h.small.c_small in kept s.c (omega arith) in
    let least = rw (fa, fb, fc) at c.in-Some-least_root.ensures in
    let y = c.in-Some-least_root.root in
    let fy = let n : unsigned_abs y ≤ 2 ^ 121 = near s.a s.b s.c y h.small least.root in kept y (omega arith) in
    let fd = let k = h.den_small in to_z_pos w128 s.den (omega arith) in
    made a.m2 a.m1 a.m0 r.m2_valid r.m1_valid r.m0_valid s h y c.make_frac.result least (rw (fy, fd) at c.make_frac.ensures)
