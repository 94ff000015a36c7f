-- Playing a line.
use Rattle.std.proofs.Common.{◌≡◌, ℕ, ◌+◌, List, [], ◌∷◌, Option, None, Some, Ok, Err, refl, subst, sym, ap, ◌∙◌, inr, append-nil, arith}
use Rattle.std.specs.Option.{option_to_list}
use Rattle.sv_script.specs.Asked.{event_of, moment_behind, reaction_text, reactions_text}
use Rattle.sv_script.specs.PlaySteps.{Accepts, PlaysLine, TakesEvent}
use Rattle.sv_script.specs.declared.play.Course.{Course}
use Rattle.sv_script.specs.declared.replay_fault.ReplayFault.{ReplayFault}
use Rattle.sv_script.specs.declared.replay_fault.ReplayFault.TheVariants.{Script, Output, NoMemory}
use Rattle.sv_run.specs.Events.{Happening}
use Rattle.sv_run.specs.Reacting.{Reacting, Reacts}
use Rattle.sv_run.specs.declared.happening.Reaction.{Reaction}
use Rattle.sv_script.specs.Line.{asked}
use Rattle.sv_script.specs.declared.line.ScriptLine.{ScriptLine}
use Rattle.sv_streams.specs.Calls.{Making, WritesAll}

one_accepted : {R O : Type 0} (steps : Reacting R) (takes : Making O) (course : Course) (before : R) (output : O) (said : ScriptLine) (event : Happening) (reaction : Reaction) (after : R)
    → event_of course.moment said ≡ Some event → steps before event (Ok reaction) after → Accepts steps takes course before output said (reaction ∷ []) after
one_accepted steps takes course before output said event reaction after is step =
    let P : Option Happening → Type 0 = λ asked_for. Reacts steps before (option_to_list asked_for) (Ok reaction ∷ []) after in
    record { reacts = subst P (sym is) (after, step, refl); at_most_one = omega arith }

one_text : (number : ℕ) (reaction : Reaction) → reaction_text number reaction ≡ reactions_text number (reaction ∷ [])
one_text number reaction = sym (append-nil (reaction_text number reaction))

abbrev pub course_of : ℕ → ℕ → ℕ → Course
course_of moment lines events = record { moment = moment; lines = lines; events = events }

-- the course after a line
course_behind : (moment moment_then lines events accepted accepted_then : ℕ) → moment ≡ moment_then → accepted ≡ accepted_then
    → course_of moment lines (events + accepted) ≡ course_of moment_then lines (events + accepted_then)
course_behind moment moment_then lines events accepted accepted_then told counted =
    ap (λ (m : ℕ). course_of m lines (events + accepted)) told ∙ ap (λ (n : ℕ). course_of moment_then lines (events + n)) counted

-- the event of the line was accepted, and its text is written
pub line_accepted : {R O : Type 0} (steps : Reacting R) (takes : Making O) (course : Course) (before after handler : R) (output output_after sink : O)
    (line : List ℕ) (said : ScriptLine) (event : Happening) (moment accepted : ℕ)
    → asked line ≡ Ok said → event_of course.moment said ≡ Some event → TakesEvent steps takes course before output event (Ok tt) after output_after
    → handler ≡ after → sink ≡ output_after → moment ≡ moment_behind course.moment said → accepted ≡ 1
    → PlaysLine steps takes course before output line (Ok tt) (course_of moment (course.lines + 1) (course.events + accepted)) handler sink
line_accepted {R} {O} steps takes course before after handler output output_after sink line said event moment accepted
    is_read is_event (reaction, step, writes) is_reactor is_sink told counted =
    let P : List ℕ → Type 0 = λ text. WritesAll takes text output (Ok tt) sink in
    let Q : O → Type 0 = λ o. WritesAll takes (reaction_text (course.events + 1) reaction) output (Ok tt) o in
    let S : R → Type 0 = λ r. Accepts steps takes course before output said (reaction ∷ []) r in (
      said,
      reaction ∷ [],
      is_read,
      subst S (sym is_reactor) (one_accepted steps takes course before output said event reaction after is_event step),
      subst P (one_text (course.events + 1) reaction) (subst Q (sym is_sink) writes),
      course_behind moment (moment_behind course.moment said) (course.lines + 1) course.events accepted 1 told counted,
    )

-- the line asks for no event
pub nothing_asked : {R O : Type 0} (steps : Reacting R) (takes : Making O) (course : Course) (before handler : R) (output sink : O)
    (line : List ℕ) (said : ScriptLine) (moment accepted : ℕ)
    → asked line ≡ Ok said → event_of course.moment said ≡ None → handler ≡ before → sink ≡ output
    → moment ≡ moment_behind course.moment said → accepted ≡ 0
    → PlaysLine steps takes course before output line (Ok tt) (course_of moment (course.lines + 1) (course.events + accepted)) handler sink
nothing_asked {R} {O} steps takes course before handler output sink line said moment accepted is_read is_none is_reactor is_sink told counted =
    let P : Option Happening → Type 0 = λ asked_for. Reacts steps before (option_to_list asked_for) [] handler in (
      said,
      [],
      is_read,
      record { reacts = subst P (sym is_none) is_reactor; at_most_one = omega arith },
      ([], [], is_sink, (refl, refl)),
      course_behind moment (moment_behind course.moment said) (course.lines + 1) course.events accepted 0 told counted,
    )

-- the event of the line was refused, or its text was not written
pub line_stopped : {R O : Type 0} (steps : Reacting R) (takes : Making O) (course : Course) (before after : R) (output output_after : O)
    (line : List ℕ) (said : ScriptLine) (event : Happening) (fault : ReplayFault)
    → asked line ≡ Ok said → event_of course.moment said ≡ Some event → TakesEvent steps takes course before output event (Err fault) after output_after
    → PlaysLine steps takes course before output line (Err fault) course after output_after
line_stopped steps takes course before after output output_after line said event (Script number) is_read is_event (is_line, same, (refusal, blamed, step)) =
    (is_line, same, inr (refusal, blamed, record { said = said; is_read = is_read; event = event; is_event = is_event; answers = step }))
line_stopped steps takes course before after output output_after line said event Output is_read is_event (reaction, step, (failed, writes)) =
    (said, reaction, is_read, one_accepted steps takes course before output said event reaction after is_event step, (failed, writes))
line_stopped steps takes course before after output output_after line said event NoMemory is_read is_event (same, (answer, wants, step)) =
    (same, inr (answer, wants, record { said = said; is_read = is_read; event = event; is_event = is_event; answers = step }))
