-- A compaction joins few blocks of one level.
use Rattle.std.proofs.Common.{rules, ◌≡◌, ℕ, ◌+◌, ◌-◌, ◌<◌, ◌≤◌, ◌==◌, ◌&&◌, zero, suc, nat_le, List, [], ◌∷◌, Bool, true, false, refl, sym, ap, subst, arith, length, map, if◌then◌else◌}
use Rattle.std.specs.List.{AllByRecursion}
use Rattle.block_info.specs.InfoParts.{InfoParts}
use Rattle.store_model.specs.State.{Block}
use Rattle.store_model.specs.Choice.{most_rows, fits, joined, begun_with, chosen_at, or_else, chosen_from, choice, level_of}
use Rattle.store_model.proofs.Numbers.{same_number}
use Rattle.store_state.specs.Shown.{told_block, rows_of, IsChoiceOf, AreFew}

abbrev sizes : List Block → ℕ
sizes [] = 0
sizes (b ∷ bs) = b.size + sizes bs

le_of : (a b : ℕ) → nat_le a b ≡ true → a ≤ b
le_of a b h = search rules

-- so many at most, of the level, and with so many rows at most
pub record Fit (level room most : ℕ) (bs : List Block) : Type 0 where
  pub few : length bs ≤ most
  pub levels : AllByRecursion (λ (b : Block). b.level ≡ level) bs
  pub rows : sizes bs ≤ room

-- of the level, with room for its rows
fit_test : (level room : ℕ) (b : Block) → fits level room b ≡ true → (b.level ≡ level) × (b.size ≤ room)
fit_test level room b e = by_test (b.level == level) (nat_le b.size room) refl refl e
  where
    by_test : (t s : Bool) → (b.level == level) ≡ t → nat_le b.size room ≡ s → (t && s) ≡ true → (b.level ≡ level) × (b.size ≤ room)
    by_test true true l r h = (same_number b.level level l, le_of b.size room r)
    by_test true false l r h = absurd (let bad : false ≡ true = h in cc)
    by_test false s l r h = absurd (let bad : false ≡ true = h in cc)

joined_fit : (level room n : ℕ) (bs : List Block) → Fit level room n (joined level room n bs)
joined_fit level room zero bs = record { few = omega arith; levels = tt; rows = omega arith }
joined_fit level room (suc n) [] = record { few = omega arith; levels = tt; rows = omega arith }
joined_fit level room (suc n) (b ∷ bs) = by_test (fits level room b) refl (joined_fit level (room - b.size) n bs) (joined_fit level room (suc n) bs)
  where
    by_test : (t : Bool) → fits level room b ≡ t → Fit level (room - b.size) n (joined level (room - b.size) n bs) → Fit level room (suc n) (joined level room (suc n) bs)
        → Fit level room (suc n) (if t then b ∷ joined level (room - b.size) n bs else joined level room (suc n) bs)
    by_test true e rest without =
        let test = fit_test level room b e in
        record {
          few = (let few = rest.few in omega (arith, few));
          levels = (test.0, rest.levels);
          rows = (let own = test.1 in let others = rest.rows in omega (arith, own, others));
        }
    by_test false e rest without = without

-- two to four of the level, with few enough rows
pub record Few (level : ℕ) (bs : List Block) : Type 0 where
  pub two : 2 ≤ length bs
  pub fit : Fit level most_rows 4 bs

begun_few : (level : ℕ) (b : Block) (xs others : List Block) → b.level ≡ level → b.size ≤ most_rows → Fit level (most_rows - b.size) 3 xs
    → (1 ≤ length others → Few level others) → 1 ≤ length (begun_with b xs others) → Few level (begun_with b xs others)
begun_few level b [] others its room fit rest some = rest some
begun_few level b (x ∷ xs) others its room fit rest some =
    let few = fit.few in
    let rows = fit.rows in
    record {
      two = omega arith;
      fit = record { few = omega (arith, few); levels = (its, fit.levels); rows = omega (arith, room, rows) };
    }

chosen_few : (level : ℕ) (bs : List Block) → 1 ≤ length (chosen_at level bs) → Few level (chosen_at level bs)
chosen_few level [] some = absurd (omega (arith, some))
chosen_few level (b ∷ bs) some = by_test (fits level most_rows b) refl (chosen_few level bs) some
  where
    by_test : (t : Bool) → fits level most_rows b ≡ t → (1 ≤ length (chosen_at level bs) → Few level (chosen_at level bs))
        → 1 ≤ length (if t then begun_with b (joined level (most_rows - b.size) 3 bs) (chosen_at level bs) else chosen_at level bs)
        → Few level (if t then begun_with b (joined level (most_rows - b.size) 3 bs) (chosen_at level bs) else chosen_at level bs)
    by_test true e rest some =
        let test = fit_test level most_rows b e in
        begun_few level b (joined level (most_rows - b.size) 3 bs) (chosen_at level bs) test.0 test.1 (joined_fit level (most_rows - b.size) 3 bs) rest some
    by_test false e rest some = rest some

-- at some level from this one on, of so many
pub record FewFrom (from n : ℕ) (bs : List Block) : Type 0 where
  pub level : ℕ
  pub low : from ≤ level
  pub high : level < from + n
  pub few : Few level bs

or_few : (from n : ℕ) (xs others : List Block) → (1 ≤ length xs → Few from xs) → (1 ≤ length others → FewFrom (from + 1) n others)
    → 1 ≤ length (or_else xs others) → FewFrom from (suc n) (or_else xs others)
or_few from n [] others here there some =
    let it = there some in
    let low = it.low in
    let high = it.high in
    record { level = it.level; low = omega (arith, low); high = omega (arith, high); few = it.few }
or_few from n (x ∷ xs) others here there some = record { level = from; low = omega arith; high = omega arith; few = here some }

from_few : (from n : ℕ) (bs : List Block) → 1 ≤ length (chosen_from from n bs) → FewFrom from n (chosen_from from n bs)
from_few from zero bs some = absurd (omega (arith, some))
from_few from (suc n) bs some = or_few from n (chosen_at from bs) (chosen_from (from + 1) n bs) (chosen_few from bs) (from_few (from + 1) n bs) some

-- ---- by their information

told_length : (infos : List InfoParts) → length (map told_block infos) ≡ length infos
told_length [] = refl
told_length (i ∷ is) = let rest = told_length is in omega (arith, rest)

told_sizes : (infos : List InfoParts) → sizes (map told_block infos) ≡ rows_of infos
told_sizes [] = refl
told_sizes (i ∷ is) = ap (λ n. i.rows + n) (told_sizes is)

told_levels : (low level : ℕ) (infos : List InfoParts) → level ≡ low + 1 → AllByRecursion (λ (b : Block). b.level ≡ low) (map told_block infos)
    → AllByRecursion (λ (info : InfoParts). info.level + 1 ≡ level) infos
told_levels low level [] is all = tt
told_levels low level (i ∷ more) is all = (let own = all.0 in omega (arith, own, is), told_levels low level more is all.1)

own_level : (low : ℕ) (infos : List InfoParts) → 1 ≤ length infos → AllByRecursion (λ (b : Block). b.level ≡ low) (map told_block infos) → level_of (map told_block infos) ≡ low
own_level low [] some all = absurd (omega (arith, some))
own_level low (i ∷ more) some all = all.0

pub choice_few : (listed : List InfoParts) (level : ℕ) (pinned : List InfoParts) → IsChoiceOf listed level pinned → 1 ≤ length pinned → AreFew level pinned
choice_few listed level pinned is some =
    let many = told_length pinned in
    let chosen : 1 ≤ length (choice (map told_block listed)) = subst (λ (bs : List Block). 1 ≤ length bs) is.chosen (omega (arith, many, some)) in
    let found = from_few 0 63 (map told_block listed) chosen in
    let few : Few found.level (map told_block pinned) = subst (Few found.level) (sym is.chosen) found.few in
    let own = own_level found.level pinned some few.fit.levels in
    let its = is.its_level in
    let above : level ≡ found.level + 1 = omega (arith, own, its) in
    let high = found.high in
    let two = few.two in
    let four = few.fit.few in
    record {
      two = omega (arith, two, many);
      four = omega (arith, four, many);
      high = omega (arith, high, above);
      levels = told_levels found.level level pinned above few.fit.levels;
      rows = subst (λ (n : ℕ). n ≤ most_rows) (told_sizes pinned) few.fit.rows;
    }
