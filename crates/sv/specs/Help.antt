-- The help on the commands, and the manual in its forms.
use Rattle.std.specs.Prelude.{ℕ, List, Option, Some, None}
use Rattle.sv_arguments.specs.Topics.{commands, options, topic_name}
use Rattle.sv_arguments.specs.declared.manual.Manual.{Manual}
use Rattle.sv_arguments.specs.declared.manual.Manual.TheVariants.{Commands, CommandsMarkdown, Completion, Keys, KeysPage, KeysMarkdown}
use Rattle.sv_arguments.specs.declared.topic.Topic.{Topic}
use Rattle.sv_manual.specs.Completion.{completion_text}
use Rattle.sv_manual.specs.Keys.{config_text}
use Rattle.sv_manual.specs.Manual.{named_text, page_text}
use Rattle.sv_manual.specs.declared.form.Form.TheVariants as Form
use Rattle.sv_program.specs.Keys.{descriptions}

-- the help on all commands or on one
unfoldable pub help_text : Option Topic → List ℕ
help_text None = page_text Form.Help commands options
help_text (Some topic) = named_text Form.Help (topic_name topic) commands options

-- the text of a manual
unfoldable pub manual_text : Manual → List ℕ
manual_text Commands = page_text Form.Roff commands options
manual_text CommandsMarkdown = page_text Form.Markdown commands options
manual_text Completion = completion_text commands options
manual_text Keys = config_text Form.Help descriptions
manual_text KeysPage = config_text Form.Roff descriptions
manual_text KeysMarkdown = config_text Form.Markdown descriptions
