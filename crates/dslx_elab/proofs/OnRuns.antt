-- Networks of checked texts that are made of accepted texts' instances.
use Rattle.std.proofs.Common.{◌≡◌, ◌⊎◌, inl, inr, ◌≤◌, ◌<◌, ◌^◌, ℕ, List, map, length, Some, None, Result, Ok, Err, IfErr, IsErrAnd, if◌then◌else◌, sym, ap, subst, ◌∙◌, arith}
use Rattle.std.specs.Prelude.{nat_lt, slice_get}
use Rattle.std.proofs.lemmas.Bool.{le-ltb}
use Rattle.std.proofs.lemmas.List.{length-map}
use Rattle.xb_span.specs.declared.limit.Limit.{Limit}
use Rattle.xb_span.specs.declared.read_error.ReadError.{ReadError}
use Rattle.xb_span.specs.declared.read_error.ReadError.TheVariants.{OutOfMemory, Over}
use Rattle.dslx_core.proofs.Lemmas.Typing.Typed.{none_some}
use Rattle.xb_span.specs.declared.limit.What.TheVariants as what
use Rattle.net_core.specs.declared.net.Net.{Net}
use Rattle.dslx_core.specs.Designs.{core_family}
use Rattle.dslx_core.specs.declared.design.Design.{Design}
use Rattle.dslx_interp.specs.Network.Bodies.{own_instance}
use Rattle.dslx_interp.specs.Network.Limits.{network_limit}

-- few procs and channels pass no limit
pub within_limits : (net : Net) → length net.procs ≤ 256 → length net.chans ≤ 1024 → network_limit net ≡ None
within_limits net procs chans =
    ap (λ b. if b then Some (record { what = what.Procs; found = 257; most = 256 }) else if nat_lt 1024 (length net.chans) then Some (record { what = what.Channels; found = 1025; most = 1024 }) else None) (le-ltb 256 (length net.procs) procs)
    ∙ ap (λ b. if b then Some (record { what = what.Channels; found = 1025; most = 1024 }) else None) (le-ltb 1024 (length net.chans) chans)

-- as many instances are named as there are procs
pub few_instances : (design : Design) (instances : List ℕ) → map (slice_get design.procs) instances ≡ map own_instance (core_family design).procs → length (core_family design).procs ≤ 256 → length instances < 2 ^ 32
few_instances design instances same few =
    let a = length-map instances (slice_get design.procs) in
    let b = length-map (core_family design).procs own_instance in
    let c = ap length same in
    omega (arith, a, b, c, few)

-- ---- errors

-- what is so of an error is so of a result that hands it on
pub err_handed : {T E : Type 0} (r : Result T E) (e : E) (P : E → Type 0) → IsErrAnd r (λ x. x ≡ e) → P e → IfErr r P
err_handed (Ok x) e P is p = tt
err_handed (Err x) e P is p = subst P (sym is) p

-- where no limit is passed, memory was wanting
pub only_memory : (net : Net) (e : ReadError) → (e ≡ OutOfMemory) ⊎ ((l : Limit) × (network_limit net ≡ Some l) × (e ≡ Over l)) → network_limit net ≡ None → e ≡ OutOfMemory
only_memory net e (inl h) none = h
only_memory net e (inr h) none = none_some h.0 (sym none ∙ h.1)
