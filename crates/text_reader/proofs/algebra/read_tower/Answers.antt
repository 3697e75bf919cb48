use Rattle.std.proofs.Common.{refl}
use Rattle.text_reader.proofs.AlgebraTexts.{tower_parts, tower_read}
use Rattle.text_reader.proofs.algebra.read_tower.Goals as goal

pub returns-in-None-clause-none : goal.returns-in-None-clause-none
returns-in-None-clause-none c _ a ok e = let p = tower_parts a c.args.modulus.now c.args.behind.now c.requires ok e in c.in-None.ensures.none refl p.0 p.2.three p.2.cubic

pub returns-in-None-read_square-clause-none : goal.returns-in-None-read_square-clause-none
returns-in-None-read_square-clause-none c _ a ok e = let p = tower_parts a c.args.modulus.now c.args.behind.now c.requires ok e in c.in-None-read_square.ensures.none refl p.1 p.2.valid p.2.square

pub returns-in-Some-read_square-clause-some : goal.returns-in-Some-read_square-clause-some
returns-in-Some-read_square-clause-some c = tower_read (c.in-Some.m2, c.in-Some.m1, c.in-Some.m0) c.in-Some-read_square.d c.args.modulus.now c.args.behind.now c.in-Some.ensures.some c.in-Some-read_square.ensures.some
