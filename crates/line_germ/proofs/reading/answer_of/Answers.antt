use Rattle.std.proofs.Common.{List, map}
use Rattle.line_syntax.specs.Syntax.{Word}
use Rattle.line_germ.proofs.NameWords.{germ_short, linear_short, unmapped}
use Rattle.line_germ.proofs.reading.answer_of.Goals as goal

pub named-requires : goal.named-requires
named-requires c =
    let names : List Word = map (λ v. v.items) c.in-Germ.germ.names.items in
    let read = rw c.in-Germ.is at c.requires.read in
    unmapped (λ v. v.items) c.in-Germ.germ.names.items (germ_short c.args.line.now c.args.limit names c.in-Germ.germ.jet read)

pub name_at-requires-clause-short : goal.name_at-requires-clause-short
name_at-requires-clause-short c =
    let names : List Word = map (λ v. v.items) c.in-NotCritical.names.items in
    let read = rw c.in-NotCritical.is at c.requires.read in
    rw c.as_slice.ensures.value (unmapped (λ v. v.items) c.in-NotCritical.names.items (linear_short c.args.line.now names c.in-NotCritical.i read))
