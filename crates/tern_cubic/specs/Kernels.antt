-- What the program answers on the kernel of rows.
use Rattle.std.specs.Prelude.{ℕ, List}
use Rattle.ring_theory.specs.Rational.{Rational, rational_ops}
use Rattle.ring_law.specs.Fraction.{rational_meaning}
use Rattle.lin_row.specs.Lines.{IsLine, entry}
use Rattle.ternary_law.specs.Linear.{HasNoKernel, SpansKernel, HasKernelPlane}
use Rattle.tern_cubic.specs.declared.kernel.Kernel.{Kernel}
use Rattle.tern_cubic.specs.declared.kernel.Kernel.TheVariants as kernels

-- the answer holds of rows with n columns: their kernel is 0, is spanned by the vector, or has dimension 2 or more
abbrev pub IsKernel : ℕ → List (ℕ → Rational) → Kernel → Type 0
IsKernel n rows kernels.Zero = HasNoKernel rational_ops n rows
IsKernel n rows (kernels.Line v) = IsLine rational_meaning v.entries × SpansKernel rational_ops n rows (entry rational_meaning v.entries)
IsKernel n rows kernels.Plane = HasKernelPlane rational_ops n rows
