use Rattle.search_tests.proofs.one_span.one_span_is_found.Given as goal

abbrev pub ghosts-has_child : goal.ghosts-has_child
ghosts-has_child g a = record { name = a.blank.name; parts = a.blank.parts }
