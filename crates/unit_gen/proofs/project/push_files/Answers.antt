use Rattle.std.proofs.Common.{◌≡◌, List, [], ◌∷◌, ◌++◌, codes, append_assoc, ap, ◌∙◌}
use Rattle.mx_base.specs.declared.file.File.{File}
use Rattle.mx_base.specs.Layout.{manifest_name}
use Rattle.mx_base.specs.Path.{child_of}
use Rattle.unit_gen.specs.Texts.{manifest}
use Rattle.unit_gen.proofs.project.push_files.Goals as goal

pub returns : goal.returns
returns c =
    let files : List File = c.args.files.now.items in
    let libs = c.in_ok-child.ensures ∙ ap (λ root. child_of root (codes "libs")) c.root.ensures in
    let name = c.as_str.ensures.value ∙ c.in_ok-name.ensures in
    let folder = c.in_ok-folder.ensures ∙ (λ i. child_of (libs i) (name i)) in
    let unit_path = c.in_ok-child-2.ensures ∙ ap (λ dir. child_of dir (codes "main.unit")) folder in
    let manifest_path = c.in_ok-child-3.ensures ∙ ap (λ dir. child_of dir manifest_name) folder in
    let app = c.as_str-2.ensures.value ∙ c.in_ok-name.ensures in
    let text = c.in_ok-manifest.ensures ∙ (λ i. manifest (app i) (codes "1.0.0") (codes "../") (c.deref.ensures.value i)) in
    let first = c.file.ensures ∙ (λ i. record { path = unit_path i; bytes = c.in_ok-unit_text.ensures i }) in
    let second = c.file-2.ensures ∙ (λ i. record { path = manifest_path i; bytes = text i }) in
    c.in_ok-push-2.ensures.items
    ∙ ap (λ (all : List File). all ++ c.file-2.result ∷ []) c.in_ok-push.ensures.items
    ∙ append_assoc files (c.file.result ∷ []) (c.file-2.result ∷ [])
    ∙ (λ i. files ++ first i ∷ second i ∷ [])
