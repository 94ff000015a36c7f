-- The tables of the manual.
use Rattle.std.proofs.Common.{◌≡◌, flat_map, map, arith, refl}
use Rattle.std.specs.List.{Contains}
use Rattle.sv_arguments.specs.Laws.{listed_option, topic_options}
use Rattle.sv_arguments.specs.Settings.{option_keys, set_of}
use Rattle.sv_arguments.specs.Topics.{commands, options, topic_name, topic_usage}
use Rattle.sv_arguments.specs.declared.key.Key.{Key}
use Rattle.sv_arguments.specs.declared.key.Key.TheVariants as key
use Rattle.sv_arguments.specs.declared.option_set.OptionSet.{OptionSet}
use Rattle.sv_arguments.specs.declared.option_set.OptionSet.TheVariants as set
use Rattle.sv_arguments.specs.declared.topic.Topic.{Topic}
use Rattle.sv_arguments.specs.declared.topic.Topic.TheVariants.{First, Policy, Uncovered, Audit, Check, Replay, Serve, Run, Ctl, SelfTest, Help, Version}
use Rattle.sv_manual.specs.Manual.{named_usage}

pub has_usage : (topic : Topic) → named_usage (topic_name topic) commands ≡ topic_usage topic
has_usage First = refl
has_usage Policy = refl
has_usage Uncovered = refl
has_usage Audit = refl
has_usage Check = refl
has_usage Replay = refl
has_usage Serve = refl
has_usage Run = refl
has_usage Ctl = refl
has_usage SelfTest = refl
has_usage Help = refl
has_usage Version = refl

pub has_options : (topic : Topic) → flat_map (listed_option (topic_name topic)) options ≡ topic_options topic
has_options First = refl
has_options Policy = refl
has_options Uncovered = refl
has_options Audit = refl
has_options Check = refl
has_options Replay = refl
has_options Serve = refl
has_options Run = refl
has_options Ctl = refl
has_options SelfTest = refl
has_options Help = refl
has_options Version = refl

pub listed_key : (one : Key) → Contains (option_keys (set_of one)) one
listed_key key.Control = (0, omega arith, refl)
listed_key key.Journal = (1, omega arith, refl)
listed_key key.AccessLog = (2, omega arith, refl)
listed_key key.AccessLogFormat = (3, omega arith, refl)
listed_key key.Sessions = (4, omega arith, refl)
listed_key key.SessionsEvery = (5, omega arith, refl)
listed_key key.EndAllSessions = (6, omega arith, refl)
listed_key key.Listen = (7, omega arith, refl)
listed_key key.SameSeed = (8, omega arith, refl)
listed_key key.Connections = (9, omega arith, refl)
listed_key key.IdleSeconds = (10, omega arith, refl)
listed_key key.HeldMebibytes = (11, omega arith, refl)
listed_key key.SignalDescriptor = (12, omega arith, refl)
listed_key key.Secure = (0, omega arith, refl)
listed_key key.Format = (1, omega arith, refl)
listed_key key.As = (2, omega arith, refl)
listed_key key.Role = (3, omega arith, refl)
listed_key key.FailOn = (4, omega arith, refl)
listed_key key.Accept = (5, omega arith, refl)
listed_key key.Lines = (6, omega arith, refl)
listed_key key.UnknownFiles = (7, omega arith, refl)
listed_key key.Path = (8, omega arith, refl)
listed_key key.Method = (9, omega arith, refl)
listed_key key.Diff = (10, omega arith, refl)

pub own_keys : (its : OptionSet) → map set_of (option_keys its) ≡ map (λ any. its) (option_keys its)
own_keys set.Run = refl
own_keys set.Audit = refl
