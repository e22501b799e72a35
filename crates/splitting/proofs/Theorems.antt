-- What is proved of the choice of the next variable (S6), over lists of clauses. The words are in Terms.
use Prim.Native.Nat.{ℕ, suc, ◌*◌, ◌^◌, ◌≤◌, ◌<◌}
use mathlib.Core.Path.{◌≡◌, refl}
use mathlib.Core.Bool.{Bool, true, false}
use mathlib.Core.List.Memᴰ
use mathlib.Core.List.{List, [], ◌∷◌, ◌++◌, map, Memᴰ, Sublistᴰ}
use mathlib.Core.Logic.{◌↔◌}
use native.Mathlib.Omega.{arith}
use lib.ListN.{length}
use Rattle.lists.specs.Distinct.{Distinct}
use Rattle.lists.specs.Every.{Every}
use Rattle.lists.proofs.SublistLaws.{sub_length}
use Rattle.masks.specs.Mask.{bit, size}
use Rattle.matching.specs.InnerMatched.{Matched}
use Rattle.formula.specs.Format.{Literal, names, ClauseOver}
use Rattle.formula.specs.Models.{Model}
use Rattle.formula.specs.Masked.{variables}
use Rattle.splitting.specs.Nodes.{assign, remaining, named, lowest_with}
use Rattle.splitting.specs.Stripping.{pure, not_naming, note, stripped}
use Rattle.splitting.specs.Choosing.{trial, first_passing, occurrences, candidates, among, listed, last, emptied, unassigned_of, choice}
use Rattle.splitting.specs.Terms.{Below, NonePure, left_after, Before, Ordered, Sound, Trail, Agrees, Covers, ModelAt, Unassigned, Assigns, opened}
use Rattle.splitting.proofs.ClauseLaws.{named_by}
use Rattle.splitting.proofs.StrippingLaws as stripping
use Rattle.splitting.proofs.TurnLaws as turns
use Rattle.splitting.proofs.NodeLaws as nodes
use Rattle.splitting.proofs.MatchedLaws as matchings
use Rattle.splitting.proofs.ModelLaws as models
use Rattle.splitting.proofs.SoundLaws as sound
use Rattle.splitting.proofs.OrderLaws as orders
use Rattle.splitting.proofs.TrialLaws as trials
use Rattle.splitting.proofs.ChoiceLaws as choices
use Rattle.splitting.proofs.TrailLaws as trails
use Rattle.splitting.proofs.OpenLaws as opens

-- ── Stripping (lemma 4.3 and corollary 4.4 of the source) ────────────────────────────────────────────────────────────

-- S6.2: what stripping leaves are clauses of the list, in order.
pub left_sub_list : (n : ℕ) (cs : List (List Literal)) → Sublistᴰ (stripped n cs).left cs
left_sub_list n cs = stripping.left_sub n cs

-- S6.2: in what it leaves no variable is pure.
pub left_none_pure : (n : ℕ) (cs : List (List Literal)) → Below n cs → NonePure (stripped n cs).left
left_none_pure n cs low = stripping.left_none_pure n cs low

-- It is the greatest such part, whatever the order of stripping: every sub-list with no pure variable is a sub-list of it.
pub left_greatest : (n : ℕ) (ds cs : List (List Literal)) → Sublistᴰ ds cs → NonePure ds → Sublistᴰ ds (stripped n cs).left
left_greatest n ds cs s np = stripping.left_greatest n ds cs s np

-- The turns are not bounded by what the definition counts them with: while some variable below n is pure, the lowest is noted and the
-- clauses that name it are dropped,
pub stripped_next : (n : ℕ) (cs : List (List Literal)) → lowest_with (pure cs) n < n
    → stripped n cs ≡ note (lowest_with (pure cs) n) (stripped n (not_naming (lowest_with (pure cs) n) cs))
stripped_next n cs l = turns.stripped_next n cs l

-- and it ends only where none is.
pub stripped_end : (n : ℕ) (cs : List (List Literal)) → n ≤ lowest_with (pure cs) n → stripped n cs ≡ record { noted = []; left = cs }
stripped_end n cs l = turns.stripped_end n cs l

-- S6.2: a clause is left exactly if it names no noted variable.
pub left_exactly : (n : ℕ) (cs : List (List Literal)) (c : List Literal) → Memᴰ c cs
    → Memᴰ c (stripped n cs).left ↔ ((y : ℕ) → among (stripped n cs).noted y ≡ true → names c y ≡ false)
left_exactly n cs c m = (stripping.left_unnoted n cs c, stripping.unnoted_left n cs c m)

-- A variable is noted while it is pure, the lowest such, in what those noted before it have left,
pub noted-pure : (n : ℕ) (cs : List (List Literal)) (before after : List ℕ) (v : ℕ) → (stripped n cs).noted ≡ before ++ (v ∷ after)
    → (lowest_with (pure (left_after before cs)) n ≡ v) × (v < n) × (pure (left_after before cs) v ≡ true)
noted-pure n cs before after v e = turns.noted-pure n cs before after v e

-- and a clause that names none of those is still there.
pub still_there : (before : List ℕ) (cs : List (List Literal)) (c : List Literal) → Memᴰ c cs → ((y : ℕ) → among before y ≡ true → names c y ≡ false)
    → Memᴰ c (left_after before cs)
still_there before cs c m off = stripping.still_there before cs c m off

-- What is noted at the node of a trail is not assigned there.
pub noted-unassigned : (n : ℕ) (t : List Literal) (cs : List (List Literal)) (v : ℕ) → among (stripped n (remaining t cs)).noted v ≡ true → names t v ≡ false
noted-unassigned n t cs v h = (nodes.named-remaining t cs v (stripping.noted-named n (remaining t cs) v h)).1

-- ── Something is left (theorem 5.9 of the source) ────────────────────────────────────────────────────────────────────

-- The splitting theorem: of matched clauses with no pure variable, equal ones counted apart, some variable can get both values.
pub splitting : (cs : List (List Literal)) → Matched (map variables cs) → 0 < length cs → NonePure cs
    → (v : ℕ) × (named cs v ≡ true) × ((b : Bool) → Matched (map variables (assign v b cs)))
splitting cs M some np = matchings.splits cs M some np

-- S6.3: a trial passes exactly if both values leave matched clauses.
pub trial_decides : (n : ℕ) (cs : List (List Literal)) (v : ℕ) → n ≤ 64 → Below n cs
    → ((trial cs v).passes ≡ true) ↔ ((b : Bool) → Matched (map variables (assign v b cs)))
trial_decides n cs v fits low = (trials.passes_matched n cs v fits low, trials.matched_passes n cs v fits low)

-- S6.3: the candidates are exactly the variables named in what is left.
pub candidates_are : (n : ℕ) (left : List (List Literal)) → Below n left → (v : ℕ) → (among (candidates n left) v ≡ true) ↔ (named left v ≡ true)
candidates_are n left low v = (trials.candidates-named n left v, trials.named-candidates n left low v)

-- None is one twice,
pub candidates_once : (n : ℕ) (left : List (List Literal)) → Distinct (candidates n left)
candidates_once n left = orders.ordered_once (occurrences left) (candidates n left) (trials.candidates_ordered n left)

-- and of two the earlier is named by more left clauses, or by as many and is the lower.
pub candidates_sorted : (n : ℕ) (left : List (List Literal)) → Ordered (occurrences left) (candidates n left)
candidates_sorted n left = trials.candidates_ordered n left

-- No other list has these variables so.
pub sorted_one : (f : ℕ → ℕ) (l r : List ℕ) → Ordered f l → Ordered f r → ((v : ℕ) → among l v ≡ among r v) → l ≡ r
sorted_one f l r o p same = orders.ordered_one f l r o p same

-- They are at most as many as a mask has that has them all.
pub candidates_few : (n scope : ℕ) (left : List (List Literal)) → n ≤ 64 → Covers scope left → length (candidates n left) ≤ size scope
candidates_few n scope left fits covers = trials.candidates-length n scope left fits covers

-- S6.3: some candidate passes: the chosen variable is a candidate, its trial passes, and every candidate before it fails its own.
pub chosen_passes : (n : ℕ) (cs : List (List Literal)) → n ≤ 64 → Below n cs → Sound n cs → 0 < length (stripped n cs).left
    → (among (candidates n (stripped n cs).left) (first_passing (stripped n cs).left (candidates n (stripped n cs).left) 0).variable ≡ true)
    × ((trial (stripped n cs).left (first_passing (stripped n cs).left (candidates n (stripped n cs).left) 0).variable).passes ≡ true)
    × ((x : ℕ) → among (candidates n (stripped n cs).left) x ≡ true
    → Before (occurrences (stripped n cs).left) x (first_passing (stripped n cs).left (candidates n (stripped n cs).left) 0).variable
    → (trial (stripped n cs).left x).passes ≡ false)
chosen_passes n cs fits low S some =
    let left = (stripped n cs).left in
    let w = choices.left_chosen n left 0 fits (choices.left_below n cs fits low) (stripping.left_none_pure n cs low) S some in
    (w.0, w.1, trials.first_fails left (occurrences left) (candidates n left) 0 (trials.candidates_ordered n left))

-- ── Nothing is left, but clauses remain (lemma 4.5 of the source) ────────────────────────────────────────────────────

-- S6.4: the last listed variable is named at this node.
pub last_listed-named : (n : ℕ) (cs : List (List Literal)) → Below n cs → 0 < length cs → (stripped n cs).left ≡ []
    → named cs (last (listed n cs (stripped n cs).noted)) ≡ true
last_listed-named n [] low some none = absurd (omega arith)
last_listed-named n (c ∷ cs) low some none =
    let y = sound.noted_some n (c ∷ cs) none c (Memᴰ.head refl) in
    sound.last-named n (c ∷ cs) low y.0 (named_by (c ∷ cs) c y.0 (Memᴰ.head refl) y.2)

-- S6.4: after an open value of it, one that leaves no clause empty, stripping leaves nothing again.
pub last_listed-leaves : (n : ℕ) (cs : List (List Literal)) (b : Bool) → Below n cs → (stripped n cs).left ≡ []
    → emptied (assign (last (listed n cs (stripped n cs).noted)) b cs) ≡ false
    → (stripped n (assign (last (listed n cs (stripped n cs).noted)) b cs)).left ≡ []
last_listed-leaves n cs b low none full = sound.last_none n (last (listed n cs (stripped n cs).noted)) b cs low none (sound.last_of n cs low) full

-- At least one value of any variable empties no clause.
pub one_open : (n : ℕ) (cs : List (List Literal)) (v : ℕ) → Sound n cs → (b : Bool) × (emptied (assign v b cs) ≡ false)
one_open n cs v S = sound.one_open n v cs S

-- No model has a value that empties a clause.
pub emptied_no_model : (n : ℕ) (cs : List (List Literal)) (v : ℕ) (b : Bool) (a : ℕ) → emptied (assign v b cs) ≡ true → Model n cs a → bit a v ≡ b → ⊥
emptied_no_model n cs v b a t M e = sound.emptied_unsatisfied v b cs t (bit a) (models.model_satisfies n cs a M) e

-- ── The invariant (definition 5.2 and theorem 5.3 of the source) ─────────────────────────────────────────────────────

-- What stripping leaves of matched clauses is matched: the invariant holds at the root of a matched formula.
pub matched_sound : (n : ℕ) (cs : List (List Literal)) → Matched (map variables cs) → Sound n cs
matched_sound n cs M = sound.matched_sound n cs M

-- Every open value keeps it, in all three cases of the choice.
pub open_sound : (n scope : ℕ) (cs : List (List Literal)) (t : List Literal) → n ≤ 64 → Below n cs → Sound n (remaining t cs)
    → (b : Bool) → opened (choice n scope cs t) b ≡ true → Sound n (assign (choice n scope cs t).variable b (remaining t cs))
unfolding choice
open_sound n scope cs t fits low S = choices.chosen_open n (unassigned_of scope t) (remaining t cs) fits (nodes.below_remaining n t cs low) S

-- A node with it has a model: one that agrees with the trail and has no variable true but the trail's and those of a mask that has the
-- variables named there.
pub sound_model : (n scope : ℕ) (cs : List (List Literal)) (t : List Literal) → Below n cs → Covers scope (remaining t cs) → Trail n t → Sound n (remaining t cs)
    → (a : ℕ) × ModelAt n scope cs t a
sound_model n scope cs t low covers T S = opens.sound_agrees n scope cs t low covers T S

-- ── Nodes ────────────────────────────────────────────────────────────────────────────────────────────────────────────

-- A formula over n variables names no others.
pub formula_below : (n : ℕ) (cs : List (List Literal)) → Every (ClauseOver n) cs → Below n cs
formula_below n cs over = nodes.clauses_below n cs over

-- One more variable is assigned.
pub remaining_snoc : (t : List Literal) (l : Literal) (cs : List (List Literal)) → remaining (t ++ (l ∷ [])) cs ≡ assign l.variable l.positive (remaining t cs)
remaining_snoc t l cs = nodes.remaining_snoc t l cs

-- A trail of fewer variables than a mask has lacks one of them,
pub trail_lacks : (n scope : ℕ) (t : List Literal) → n ≤ 64 → scope < 2 ^ n → Trail n t → length t < size scope → Unassigned n scope t
trail_lacks n scope t fits below T = trails.trail_lacks n scope fits below t T

-- and one of the mask's variables, as many as it has, has them all.
pub trail_full : (n scope : ℕ) (t : List Literal) → n ≤ 64 → scope < 2 ^ n → Trail n t → ((v : ℕ) → names t v ≡ true → bit scope v ≡ true)
    → length t ≡ size scope → Assigns scope t
trail_full n scope t fits below T = trails.trail_full n scope fits below t T

-- Where every variable of a mask is assigned that has the variables named there, no clause remains,
pub full-none : (n scope : ℕ) (cs : List (List Literal)) (t : List Literal) → Covers scope (remaining t cs) → Assigns scope t → Sound n (remaining t cs)
    → remaining t cs ≡ []
full-none n scope cs t covers all S = trails.full-none n scope t cs covers all S

-- and the trail's assignment is a model.
pub full_model : (n scope : ℕ) (cs : List (List Literal)) (t : List Literal) → Covers scope (remaining t cs) → Assigns scope t → Sound n (remaining t cs)
    → (a : ℕ) → Agrees (bit a) t → ((v : ℕ) → n ≤ v → bit a v ≡ false) → Model n cs a
full_model n scope cs t covers all S a g above =
    models.satisfies_model n cs a
    (models.remaining_satisfies (bit a) t cs (rw (trails.full-none n scope t cs covers all S) (λ c m. absurd (Memᴰ.not-nil m))) g)
    above

-- ── The choice ───────────────────────────────────────────────────────────────────────────────────────────────────────

-- S6.6: what open means. At a sound node at which a variable of the mask is not assigned, and the mask has the variables named there, the
-- chosen variable is such a one, and a value of it is open exactly if some model agrees with the trail and has it; and then one with no
-- variable true but the mask's and the trail's.
pub open_means : (n scope : ℕ) (cs : List (List Literal)) (t : List Literal) → n ≤ 64 → Every (ClauseOver n) cs → Covers scope (remaining t cs) → Trail n t
    → Unassigned n scope t → Sound n (remaining t cs)
    → ((choice n scope cs t).variable < n)
    × (bit scope (choice n scope cs t).variable ≡ true)
    × (names t (choice n scope cs t).variable ≡ false)
    × ((b : Bool) → opened (choice n scope cs t) b ≡ true → (a : ℕ) × ModelAt n scope cs t a × (bit a (choice n scope cs t).variable ≡ b))
    × ((b : Bool) (a : ℕ) → Model n cs a → Agrees (bit a) t → bit a (choice n scope cs t).variable ≡ b → opened (choice n scope cs t) b ≡ true)
open_means n scope cs t fits over covers T lacks S =
    let low = nodes.clauses_below n cs over in
    let w = opens.choice_new n scope cs t fits low covers T S lacks in
    (w.0, w.1, w.2, opens.open_model n scope cs t fits low covers T S w, opens.model_open n scope cs t)

-- So some value is open at every sound node.
pub some_open : (n scope : ℕ) (cs : List (List Literal)) (t : List Literal) → Sound n (remaining t cs) → (b : Bool) × (opened (choice n scope cs t) b ≡ true)
some_open n scope cs t S = opens.some_open n scope cs t S

-- S6.7: one choice makes at most s × m × (m + 1) expansions, s the variables of the mask, m the formula's clauses.
pub choice_cost : (n scope : ℕ) (cs : List (List Literal)) (t : List Literal) → n ≤ 64 → Below n cs → Covers scope (remaining t cs)
    → (choice n scope cs t).expansions ≤ size scope * (length cs * suc (length cs))
unfolding choice
choice_cost n scope cs t fits low covers =
    let l = sub_length (stripping.left_sub n (remaining t cs)) in
    choices.chosen_cost n (length cs) scope (unassigned_of scope t) (remaining t cs) fits (nodes.below_remaining n t cs low) covers (omega (arith, nodes.length-remaining t cs))

-- At a sound node it makes at most s × n × (n + 1): what stripping leaves there is matched, so no more clauses than variables.
pub choice_cost_sound : (n scope : ℕ) (cs : List (List Literal)) (t : List Literal) → n ≤ 64 → Below n cs → Covers scope (remaining t cs) → Sound n (remaining t cs)
    → (choice n scope cs t).expansions ≤ size scope * (n * suc n)
unfolding choice
choice_cost_sound n scope cs t fits low covers S =
    let ds = remaining t cs in
    let b = nodes.below_remaining n t cs low in
    choices.chosen_cost n n scope (unassigned_of scope t) ds fits b covers (matchings.matched_few n (stripped n ds).left (choices.left_below n ds fits b) S)
