use Rattle.std.proofs.Common.{rules, sym, ap, ap₂, refl, codes, true, [], ◌∷◌, ◌≡◌, ◌∙◌}
use Rattle.std.proofs.lemmas.Result.{err_from_is_err_and}
use Rattle.clap.specs.Walk.{Text}
use Rattle.clap.specs.Simple.{App, app_of, new_app, with_subcommand}
use Rattle.clap.specs.Takes.{takes}
use Rattle.clap.specs.Faults.{fault_of, is_simple_and_free}
use Rattle.clap.proofs.OnLiterals.{clap_on_literals}
use Rattle.demo_app.proofs.command_line.other_line.Goals as goal

abbrev play : App
play = new_app (codes "play")

abbrev plain : App
plain = new_app (codes "vncdemo")

abbrev top : App
top = record plain { top = record plain.top { has_version = true; subcommand_required = true; arg_required_else_help = true } }

abbrev vncdemo : App
vncdemo = with_subcommand top play.top

is_taken : (program : Text) → takes vncdemo (program ∷ codes "play" ∷ []) ≡ true
unfolding clap_on_literals
is_taken program = refl

pub returns-in_err-_matches : goal.returns-in_err-_matches
returns-in_err-_matches c =
    let play_is : app_of c.after_help-play.result ≡ play = rw (c.after_help-play.ensures, c.about.ensures) c.new.ensures.app in
    let settings : App → App = λ a. record a { top = record a.top { has_version = true; subcommand_required = true; arg_required_else_help = true } } in
    let top_is : app_of c.arg_required_else_help.result ≡ top = rw (c.arg_required_else_help.ensures, c.subcommand_required.ensures, c.version.ensures, c.after_help.ensures, c.about-2.ensures) (ap settings c.new-2.ensures.app) in
    let command_is : app_of c.in_ok-command.command ≡ vncdemo = c.in_ok-command.ensures.shape (search rules) ∙ ap₂ with_subcommand top_is (ap (λ (a : App). a.top) play_is) in
    let passes = c.in_err-_matches.ensures.passes in
    let from = c.from_residual-in_err-_matches.ensures in
    let error = err_from_is_err_and c.from_residual-in_err-_matches.result from.1 in
    record {
      play = λ program said. rw (error.1, error.2) (passes (ap₂ takes command_is said ∙ is_taken program));
      alone = λ program said. from.0;
      chosen = rw error.1 tt;
    }

is_free : is_simple_and_free vncdemo ≡ true
unfolding clap_on_literals
is_free = refl

fault_alone : (program : Text) → fault_of vncdemo (program ∷ []) ≡ [] → ⊥
unfolding clap_on_literals
fault_alone program e = cc

pub returns : goal.returns
returns c =
    let play_is : app_of c.after_help-play.result ≡ play = rw (c.after_help-play.ensures, c.about.ensures) c.new.ensures.app in
    let settings : App → App = λ a. record a { top = record a.top { has_version = true; subcommand_required = true; arg_required_else_help = true } } in
    let top_is : app_of c.arg_required_else_help.result ≡ top = rw (c.arg_required_else_help.ensures, c.subcommand_required.ensures, c.version.ensures, c.after_help.ensures, c.about-2.ensures) (ap settings c.new-2.ensures.app) in
    let command_is : app_of c.in_ok-command.command ≡ vncdemo = c.in_ok-command.ensures.shape (search rules) ∙ ap₂ with_subcommand top_is (ap (λ (a : App). a.top) play_is) in
    let none = c.in_ok-_matches.ensures.kinds (ap is_simple_and_free command_is ∙ is_free) in
    record {
      play = λ program said. tt;
      alone = λ program said. absurd (fault_alone program (sym (ap₂ fault_of command_is said) ∙ none));
      chosen = refl;
    }
