-- The output of an event so far.
use Rattle.std.specs.Prelude.{◌≡◌, ℕ, Bool, ◌||◌, List, ◌++◌, Option, Result}
use Rattle.std.specs.Option.{option_or}
use Rattle.sv_journal.specs.Journal.{JournalState}
use Rattle.sv_policy.specs.declared.edit_fault.EditFault.{EditFault}
use Rattle.sv_run.specs.Accesses.{logged}
use Rattle.sv_run.specs.Effect.{Effect, noting}
use Rattle.sv_run.specs.declared.access.Access.{Access}
use Rattle.sv_run.specs.declared.happening.Reaction.{Reaction}
use Rattle.sv_run.specs.declared.output.Output.{Output}

-- what the reaction will show, whether a log wants accesses, and the accesses
pub record Growth : Type 0 where
  pub sends : List ℕ
  pub closes : Bool
  pub journal : JournalState
  pub edited : Option (Result ℕ EditFault)
  pub logs : Bool
  pub accesses : List Access

abbrev pub growth_of : Output → Growth
growth_of output = record {
  sends = output.sends;
  closes = output.closes;
  journal = output.journal;
  edited = output.edited;
  logs = output.logs;
  accesses = output.accesses.items;
}

abbrev pub reaction_in : Growth → Reaction
reaction_in growth = record { sends = growth.sends; closes = growth.closes; journal = growth.journal; edited = growth.edited }

-- an output followed by an effect
abbrev pub then_brings : {Context : Type 0} → Growth → Effect Context → Growth
then_brings growth effect =
    record {
      sends = growth.sends ++ effect.sends;
      closes = growth.closes || effect.closes;
      journal = noting effect.journal growth.journal;
      edited = option_or growth.edited effect.edited;
      logs = growth.logs;
      accesses = growth.accesses ++ logged growth.logs effect.accesses;
    }

-- the effect is added to the output
abbrev pub Adds : {Context : Type 0} → Output → Effect Context → Output → Type 0
Adds before effect after = growth_of after ≡ then_brings (growth_of before) effect
