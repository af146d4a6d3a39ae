-- Two lists that tests write meet the rules.
use Rattle.std.proofs.Common.{◌≡◌, ℕ, ◌≤◌, ◌<◌, List, [], ◌∷◌, refl, sym, subst, arith}
use Rattle.std.specs.List.{IsDistinct}
use Rattle.std.proofs.lemmas.List.Elements.{All-from_recursion}
use Rattle.std.proofs.lemmas.List.Sorted.{IsNonDecreasingBy-short}
use Rattle.block_list.specs.Body.{MeetsRules}
use Rattle.block_list.specs.declared.body.SegmentRef.{SegmentRef}
use Rattle.block_list.specs.declared.body.BlockRef.{BlockRef}
use Rattle.block_list.specs.declared.body.ListBody.{ListBody}

-- a body with these segments, blocks and loose files
abbrev with_parts : ℕ → ℕ → ℕ → List SegmentRef → List BlockRef → List ℕ → ListBody
with_parts generation next_file floor segments blocks loose = record { generation = generation; next_file = next_file; floor = floor; segments = segments; blocks = blocks; loose = loose }

-- its parts may be given by equations
module _ (generation next_file floor : ℕ) (segments : List SegmentRef) (blocks : List BlockRef) (loose : List ℕ) where
  pub with_these : (a : List SegmentRef) (b : List BlockRef) (c : List ℕ) → segments ≡ a → blocks ≡ b → loose ≡ c → MeetsRules (with_parts generation next_file floor a b c) → MeetsRules (with_parts generation next_file floor segments blocks loose)
  with_these a b c is_a is_b is_c rules =
      subst (λ (l : List ℕ). MeetsRules (with_parts generation next_file floor segments blocks l)) (sym is_c)
      (subst (λ (l : List BlockRef). MeetsRules (with_parts generation next_file floor segments l c)) (sym is_b)
      (subst (λ (l : List SegmentRef). MeetsRules (with_parts generation next_file floor l b c)) (sym is_a) rules))

abbrev pub first_segment : SegmentRef
first_segment = record { file = 2; first = 0 }

pub new_store_rules : MeetsRules (with_parts 0 3 0 (first_segment ∷ []) [] [])
unfolding IsDistinct
new_store_rules = record {
  generation = omega arith;
  next_file = omega arith;
  some_segment = omega arith;
  files = All-from_recursion (λ file. (2 ≤ file) × (file < 3)) (2 ∷ []) ((omega arith, omega arith), tt);
  once = (tt, tt);
  order = IsNonDecreasingBy-short (λ x. x) (0 ∷ []) (omega arith);
  firsts = All-from_recursion (λ first. first ≤ 4294967295) (0 ∷ []) (omega arith, tt);
  from_floor = omega arith;
  to_floor = omega arith;
  levels = All-from_recursion (λ (block : BlockRef). block.level ≤ 63) [] tt;
  rows = All-from_recursion (λ (block : BlockRef). (1 ≤ block.rows) × (block.rows ≤ 1048576)) [] tt;
}

abbrev pub later_segment : SegmentRef
later_segment = record { file = 4; first = 9 }

abbrev pub only_block : BlockRef
only_block = record { file = 3; level = 0; rows = 7 }

pub next_list_rules : MeetsRules (with_parts 1 5 9 (later_segment ∷ []) (only_block ∷ []) (2 ∷ []))
unfolding IsDistinct
next_list_rules = record {
  generation = omega arith;
  next_file = omega arith;
  some_segment = omega arith;
  files = All-from_recursion (λ file. (2 ≤ file) × (file < 5)) (4 ∷ 3 ∷ 2 ∷ []) ((omega arith, omega arith), ((omega arith, omega arith), ((omega arith, omega arith), tt)));
  once = ((refl, (refl, tt)), ((refl, tt), (tt, tt)));
  order = IsNonDecreasingBy-short (λ x. x) (9 ∷ []) (omega arith);
  firsts = All-from_recursion (λ first. first ≤ 4294967295) (9 ∷ []) (omega arith, tt);
  from_floor = omega arith;
  to_floor = omega arith;
  levels = All-from_recursion (λ (block : BlockRef). block.level ≤ 63) (only_block ∷ []) (omega arith, tt);
  rows = All-from_recursion (λ (block : BlockRef). (1 ≤ block.rows) × (block.rows ≤ 1048576)) (only_block ∷ []) ((omega arith, omega arith), tt);
}
