use Rattle.sv.specs.Help.{manual_text}
use Rattle.sv.proofs.help_command.manual_page.Goals as goal

pub returns-in-Keys : goal.returns-in-Keys
unfolding manual_text
returns-in-Keys c = rw c.in-Keys.is c.config_page.ensures

pub returns-in-KeysPage : goal.returns-in-KeysPage
unfolding manual_text
returns-in-KeysPage c = rw c.in-KeysPage.is c.config_page-in-KeysPage.ensures

pub returns-in-KeysMarkdown : goal.returns-in-KeysMarkdown
unfolding manual_text
returns-in-KeysMarkdown c = rw c.in-KeysMarkdown.is c.config_page-in-KeysMarkdown.ensures
