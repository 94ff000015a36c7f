-- Why a server at a control socket did not do what it was asked for.
use Rattle.std.specs.Prelude.{ℕ, List, codes}
use Rattle.sv_program.specs.declared.refusal.Refusal.{Refusal}
use Rattle.sv_program.specs.declared.refusal.Refusal.TheVariants.{Unknown, NoSuch, TooMany, NumberSpent, Method, User, NoMemory, Stopping, Cut, Late}

-- the reason in words
abbrev pub refusal_text : Refusal → List ℕ
refusal_text Unknown = codes "the server cannot read this: PATTERN is a URL pattern; METHODS is *, or names joined by commas, or ! and such names; ROLES is open, nobody or names joined by commas; N is a number"
refusal_text NoSuch = codes "the server has no such context or constraint"
refusal_text TooMany = codes "the context has as many constraints as there may be"
refusal_text NumberSpent = codes "no number is left for another constraint"
refusal_text Method = codes "the method is not a token"
refusal_text User = codes "the context of the target has no such user"
refusal_text NoMemory = codes "the server ran out of memory"
refusal_text Stopping = codes "the server is stopping"
refusal_text Cut = codes "the connection ended before the reply was complete"
refusal_text Late = codes "the reply did not end in time: within 10 seconds, for stop within 20"
