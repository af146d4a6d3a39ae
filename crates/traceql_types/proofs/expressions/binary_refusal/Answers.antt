use Rattle.std.proofs.Common.{inl, inr}
use Rattle.traceql_types.proofs.expressions.binary_refusal.Goals as goal

pub returns-in-Or : goal.returns-in-Or
returns-in-Or c =
    let first = c.earlier.ensures _ _ c.refused_as_truth.ensures c.refused_as_truth-in-Or.ensures in
    elim c.in-Or.is [ inl e ↦ rw e first | inr e ↦ rw e first ]

pub returns-in-Add : goal.returns-in-Add
returns-in-Add c =
    let first = c.earlier-in-Add.ensures _ _ c.refused_as_number.ensures c.refused_as_number-in-Add.ensures in
    elim c.in-Add.is [
      | inl e ↦ rw e first
      | inr d ↦
          elim d [
            | inl e ↦ rw e first
            | inr d ↦
                elim d [
                  | inl e ↦ rw e first
                  | inr d ↦
                      elim d [
                        | inl e ↦ rw e first
                        | inr d ↦
                            elim d [ inl e ↦ rw e first | inr e ↦ rw e first ]
                      ]
                ]
          ]
    ]
