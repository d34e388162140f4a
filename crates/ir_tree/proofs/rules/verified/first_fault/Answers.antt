use Rattle.std.proofs.Common.{◌≡◌, ◌++◌, [], ◌∷◌, length, ap, sym, ◌∙◌, None}
use Rattle.std.specs.Prelude.{nat_lt}
use Rattle.xb_span.specs.declared.fault.Fault.TheVariants.{Passed}
use Rattle.xb_span.specs.declared.limit.What.TheVariants as what
use Rattle.ir_tree.specs.Rules.Checks.{note, noted}
use Rattle.ir_tree.specs.Rules.Lines.{package_checks}
use Rattle.ir_tree.specs.Rules.Verified.{channels_checks, procs_checks, nothing_seen, count_check, last_end, first_fault}
use Rattle.ir_tree.proofs.OnRules.Noted.{noted-append}
use Rattle.ir_tree.proofs.rules.verified.first_fault.Goals as goal

pub returns : goal.returns
unfolding first_fault
returns c =
    let ir = c.args.ir.now in
    let line_spans = c.args.line_spans.now in
    let name = package_checks line_spans.name ir.name ir.procs in
    let channels = channels_checks line_spans.channels [] 0 ir.channels in
    let procs = procs_checks ir.channels line_spans.procs [] 0 (nothing_seen ir.channels) ir.procs in
    let counts =
    count_check (Passed (last_end line_spans.procs) (record { what = what.Procs; found = 257; most = 256 })) 256 (length ir.procs)
    ∷ count_check (Passed (last_end line_spans.procs) (record { what = what.Channels; found = 1025; most = 1024 })) 1024 (length ir.channels)
    ∷ [] in
    let last : c.last_end-end.result ≡ last_end line_spans.procs = c.last_end-end.ensures ∙ ap last_end c.as_slice-3.ensures in
    c.note.ensures
    ∙ ap (λ cs. note (nat_lt 1024 (length cs)) c.passed-2.result c.note-held.result) c.as_slice-channels.ensures
    ∙ ap (λ f. note (nat_lt 1024 (length ir.channels)) f c.note-held.result) (c.passed-2.ensures ∙ ap (λ e. Passed e (record { what = what.Channels; found = 1025; most = 1024 })) last)
    ∙ ap (note (nat_lt 1024 (length ir.channels)) (Passed (last_end line_spans.procs) (record { what = what.Channels; found = 1025; most = 1024 })))
    (c.note-held.ensures
    ∙ ap (λ ps. note (nat_lt 256 (length ps)) c.passed.result c.in_ok-held-2.held) c.as_slice-procs.ensures
    ∙ ap (λ f. note (nat_lt 256 (length ir.procs)) f c.in_ok-held-2.held) (c.passed.ensures ∙ ap (λ e. Passed e (record { what = what.Procs; found = 257; most = 256 })) last))
    ∙ ap (λ h. noted h counts)
    (c.in_ok-held-2.ensures
    ∙ ap (λ cs. noted c.in_ok-held.held (procs_checks cs c.as_slice-2.result.now [] 0 (nothing_seen cs) c.as_slice-procs.result.now)) c.as_slice-channels.ensures
    ∙ ap (λ ss. noted c.in_ok-held.held (procs_checks ir.channels ss [] 0 (nothing_seen ir.channels) c.as_slice-procs.result.now)) c.as_slice-2.ensures
    ∙ ap (λ ps. noted c.in_ok-held.held (procs_checks ir.channels line_spans.procs [] 0 (nothing_seen ir.channels) ps)) c.as_slice-procs.ensures
    ∙ ap (λ h. noted h procs)
    (c.in_ok-held.ensures
    ∙ ap (λ ss. noted c.note_package-held.result (channels_checks ss [] 0 c.as_slice-channels.result.now)) c.as_slice.ensures
    ∙ ap (λ cs. noted c.note_package-held.result (channels_checks line_spans.channels [] 0 cs)) c.as_slice-channels.ensures
    ∙ ap (λ h. noted h channels) (c.note_package-held.ensures
    ∙ ap (λ n. noted None (package_checks line_spans.name n c.as_slice-procs.result.now)) c.as_str.ensures
    ∙ ap (λ ps. noted None (package_checks line_spans.name ir.name ps)) c.as_slice-procs.ensures)))
    ∙ sym
    (noted-append name (channels ++ (procs ++ counts)) None
    ∙ noted-append channels (procs ++ counts) (noted None name)
    ∙ noted-append procs counts (noted (noted None name) channels))
