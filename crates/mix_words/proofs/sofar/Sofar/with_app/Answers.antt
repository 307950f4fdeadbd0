use Rattle.std.proofs.Common.{◌≡◌, List, ℕ, subst, sym}
use Rattle.mx_base.specs.AppName.{IsAppName}
use Rattle.std.proofs.lemmas.Bool.{both_ways}
use Rattle.mix_words.specs.Choice.{is_among}
use Rattle.mix_words.specs.Sofar.{state_of}
use Rattle.mix_words.specs.Table.{takes_apps}
use Rattle.mix_words.proofs.GoesLemmas.{goes_app_as}
use Rattle.mix_words.proofs.BarLemmas.{app_barred, none_named}
use Rattle.mix_words.proofs.LiveLemmas.{at_some}
use Rattle.mix_words.proofs.sofar.Sofar.with_app.Goals as goal

pub returns-then-not-takes_apps : goal.returns-then-not-takes_apps
returns-then-not-takes_apps c = λ is. app_barred (state_of c.args.self) c.args.word.now
    (λ fits. both_ways (takes_apps c.args.self.verb) (sym c.if-not-takes_apps.ensures) fits.taken)

pub returns-then-has : goal.returns-then-has
returns-then-has c = λ is. app_barred (state_of c.args.self) c.args.word.now
    (λ fits. both_ways (is_among c.args.self.apps.names c.args.word.now) fits.once (sym c.if-has.ensures))

pub returns-in_default : goal.returns-in_default
returns-in_default c = λ is. app_barred (state_of c.args.self) c.args.word.now
    (λ fits. none_named _ c.in_ok-name.field-0 c.in_ok-name.ensures.none c.in_default.is fits.name)

pub returns : goal.returns
returns c =
    let named = at_some (λ (n : List ℕ). (n ≡ c.args.word.now) × IsAppName n) c.in_ok-name.field-0 c.in-Some.name c.in-Some.is c.in_ok-name.ensures.some in
    goes_app_as (state_of c.args.self) c.args.word.now c.in-Some.name c.in_ok-apps.apps.names c.requires
    (record { taken = sym c.if-not-takes_apps.ensures; name = subst IsAppName named.0 named.1; once = sym c.if-has.ensures })
    named.0 c.in_ok-apps.ensures
