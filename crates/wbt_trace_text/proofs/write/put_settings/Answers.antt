use Rattle.std.proofs.Common.{[], ◌∷◌, sym, string_bytes}
use Rattle.std.proofs.lemmas.List.{append-nil}
use Rattle.wbt_trace_text.specs.declared.line.Line.TheVariants as line
use Rattle.wbt_trace_text.proofs.Texts.{join}
use Rattle.wbt_trace_text.proofs.write.put_settings.Goals as goal

pub returns : goal.returns
returns c =
    let trace = c.args.trace.now in
    let old = string_bytes c.args.text.now in
    let a = join old old _ [] (line.Cpus trace.cpus ∷ []) (record { is = sym (append-nil old) }) c.in_ok-put_line.ensures in
    let b = join old _ _ _ (line.Cap trace.cap ∷ []) a c.in_ok-put_line-2.ensures in
    let d = join old _ _ _ (line.DirtyRatio trace.settings.ratio ∷ []) b c.in_ok-put_line-3.ensures in
    let e = join old _ _ _ (line.BackgroundRatio trace.settings.bg_ratio ∷ []) d c.in_ok-put_line-4.ensures in
    let f = join old _ _ _ (line.DirtyBytes trace.settings.bytes ∷ []) e c.in_ok-put_line-5.ensures in
    let g = join old _ _ _ (line.BackgroundBytes trace.settings.bg_bytes ∷ []) f c.in_ok-put_line-6.ensures in
    g.is
