use Rattle.command_words.proofs.Spelled.{begins_serves, serve_begins, spelled_clean, spelled_one, spelled_some, spelled_taken}
use Rattle.command_words.proofs.TakenDrill.{drill_taken}
use Rattle.command_words.proofs.TakenServe.{serve_taken}
use Rattle.command_words.proofs.laws.what_words_spell.Goals as goal

pub returns-clause-clean : goal.returns-clause-clean
returns-clause-clean c = spelled_clean

pub returns-clause-some : goal.returns-clause-some
returns-clause-some c = spelled_some

pub returns-clause-one : goal.returns-clause-one
returns-clause-one c = spelled_one

pub returns-clause-taken : goal.returns-clause-taken
returns-clause-taken c = spelled_taken

pub returns-clause-drills : goal.returns-clause-drills
returns-clause-drills c = drill_taken

pub returns-clause-serves : goal.returns-clause-serves
returns-clause-serves c = serve_taken

pub returns-clause-begins : goal.returns-clause-begins
returns-clause-begins c = serve_begins

pub returns-clause-only : goal.returns-clause-only
returns-clause-only c = begins_serves
