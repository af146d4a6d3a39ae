use Rattle.session_meaning.proofs.ServedPlaces.{led_by_steps, led_legally}
use Rattle.session_meaning.proofs.serving_laws.calls_of_clients_are_steps.Goals as goal

pub returns-clause-legal : goal.returns-clause-legal
returns-clause-legal c told first last scripts answers entries ran = led_legally told first last entries ran.lead

pub returns-clause-lead : goal.returns-clause-lead
returns-clause-lead c told first last scripts answers entries ran = led_by_steps told first last entries ran.lead
