-- What print counts of the buffer is the text.
use Rattle.std.proofs.Common.{ℕ, ◌≡◌, ◌≤◌, Bool, true, false, cond, List, [], length, take, drop, refl, ap}
use borrow.Author.Tests.{le-ltb}
use lib.Dec.{ltb}
use lib.Seq.{take-append_seam}
use Rattle.lists.specs.Over.{over}
use Rattle.printing.specs.Printed.{printed}
use Rattle.printing.specs.Printing.{max_input, max_print, Printing, unwritten, printing}
use Rattle.cases.specs.Prints.{print_of}

pub text_written :
    (s b c : List ℕ) (r : ℕ) → max_print ≤ length b → printing s b ≡ record { count = r; buffer = c } → take r c ≡ print_of s
unfolding printing
text_written s b c r long e =
    rw (← ap (λ (p : Printing). p.count) e, ← ap (λ (p : Printing). p.buffer) e, le-ltb (length b) max_print long)
    (go (ltb max_input (length s)))
  where
    go : (x : Bool)
        → (let p = cond x (unwritten b) (record { count = length (printed s); buffer = over (printed s) b }) in take p.count p.buffer)
        ≡ cond x [] (printed s)
    go true = refl
    go false = take-append_seam (printed s) (drop (length (printed s)) b)
