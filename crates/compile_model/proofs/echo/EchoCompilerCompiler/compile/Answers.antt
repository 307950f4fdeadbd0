use Rattle.std.proofs.Common.{rules, ◌∙◌, ap, sym, refl}
use Rattle.std.specs.Option.{option_copied}
use Rattle.compile_model.specs.Content.{content_of}
use Rattle.compile_model.specs.Echo.{warning_of}
use Rattle.compile_model.proofs.EchoLemmas.{echo_built}
use Rattle.compile_model.proofs.echo.EchoCompilerCompiler.compile.Goals as goal

pub returns : goal.returns
returns c =
    let sources = c.as_slice-sources.ensures.value in
    let none = sym c.named.ensures ∙ ap option_copied c.in_default-named.is in
    let content = content_of c.args.input.now.job.now c.args.input.now.needs.now in
    let built = echo_built content _ _ c.in_default.not-Nothing (rw sources at none) (c.in_ok-text.ensures ∙ ap warning_of sources) c.in_ok-files.ensures in
    record { meaning = c.in_ok-of-3.ensures ∙ built; cause = search rules; called = refl }
