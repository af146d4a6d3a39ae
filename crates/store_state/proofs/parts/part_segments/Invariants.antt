-- With what the rest of the list gives it is what the whole list gives.
use Rattle.std.proofs.Common.{◌≡◌, ◌≤◌, ◌+◌, ◌++◌, ◌∷◌, [], map, drop, length}
use Rattle.std.specs.Vec.{vec_len, vec_capacity}
use Rattle.store_model.specs.After.{released, staying}
use Rattle.store_state.specs.Listed.{segment_of}
use Rattle.store_state.proofs.parts.part_segments.Given as goal

abbrev pub invariant-loop-at : goal.invariant-loop-at
invariant-loop-at l = record {
  stay : map segment_of l.segments.items ++ staying l.floor (map segment_of (drop l.at l.now ++ l.last ∷ [])) ≡ staying l.floor (map segment_of (l.now ++ l.last ∷ []));
  go : l.loose.items ++ released l.floor (map segment_of (drop l.at l.now ++ l.last ∷ [])) ≡ l.initial.loose.items ++ released l.floor (map segment_of (l.now ++ l.last ∷ []));
  segments_len : vec_len l.segments ≤ l.at;
  segments_room : length l.now + 1 ≤ vec_capacity l.segments;
  segments_kept : vec_capacity l.initial.segments ≤ vec_capacity l.segments;
  loose_len : vec_len l.loose ≤ vec_len l.initial.loose + l.at;
  loose_room : vec_capacity l.initial.loose ≤ vec_capacity l.loose;
}
