-- The last item alone.
use Rattle.std.proofs.Common.{inl, refl}
use Rattle.cert_check.proofs.carried.carry_on.Goals as goal

pub returns-in-Ok-Holds : goal.returns-in-Ok-Holds
returns-in-Ok-Holds c l h = ((rw c.in-Ok-Holds.field-0-is at c.in-Ok-Holds.ensures) l h, tt)

pub returns-in-Ok-Fails : goal.returns-in-Ok-Fails
returns-in-Ok-Fails c l h = inl (refl, (rw c.in-Ok-Fails.field-0-is at c.in-Ok-Fails.ensures) l h)
