-- `root` meets its contract: nothing is on the trail.
use Rattle.std.proofs.Common.{refl, sym, ◌∙◌, arith}
use mathlib.Core.Bool.{false≢true}
use Rattle.lists.specs.Padded.{padded}
use Rattle.masks.proofs.BitLaws.{bit-none}
use Rattle.splitting.specs.InnerChoose.{assign_all}
use Rattle.walk.specs.InnerStack.{trail_of}
use Rattle.walk.specs.InnerTest.{pushed, replays}
use Rattle.enumeration.proofs.scope.Task.root.Goals as goal

pub returns : goal.returns
unfolding padded assign_all trail_of pushed replays
returns c = λ K small before.
    record {
      holds = record {
        room = small;
        short = omega arith;
        deep = refl;
        bytes = refl;
        assigned = sym before;
        replayed = refl;
        opens = tt;
        clears = λ e. absurd (false≢true (sym (bit-none 0) ∙ e));
        at_full = λ e. cc e;
        at_back = λ e. cc e;
        at_over = λ e. refl;
      };
      stack = refl;
      place = refl;
    }
