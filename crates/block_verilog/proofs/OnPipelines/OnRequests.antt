-- What the sites of a proc ask at an end of a channel, in the code's words and in the machine's.
use Rattle.std.proofs.Common.{◌≡◌, ℕ, zero, suc, ◌+◌, List, [], ◌∷◌, length, map, Bool, cond, Some, refl, sym, ap, ap₂, ◌∙◌, subst, arith}
use Rattle.std.specs.Prelude.{slice_get, ◌&&◌, ◌==◌, not}
use Rattle.net_core.specs.declared.net.Site as net_site
use Rattle.net_core.specs.Behavior.{chan_at}
use Rattle.vlog_tree.specs.declared.expression.Atom.{Atom}
use Rattle.block_build.specs.declared.netlist.sites.Site.{Site}
use Rattle.block_build.specs.Netlist.Ends.{RequestNets, sends_at, is_end_of, end_requests}
use Rattle.block_build.specs.Netlist.Gates.{net}
use Rattle.block_build.specs.Netlist.Handshakes.{SiteNets, assert_net}
use Rattle.block_build.specs.Netlist.Requests.{is_end, request_of, requests_at}
use Rattle.block_build.specs.Netlist.Staging.{shaken_at}

-- a site is one of these, and sends this
pub record IsAsked (nets : List net_site.Site) (sent : ℕ → Atom) (i : ℕ) (site : Site) : Type 0 where
  pub end : net_site.Site
  pub there : slice_get nets i ≡ Some end
  pub channel : site.channel ≡ end.chan
  pub sends : site.sends ≡ end.sends
  pub own : sent i ≡ site.own

chan_there : (nets : List net_site.Site) (i : ℕ) (net : net_site.Site) → slice_get nets i ≡ Some net → chan_at nets i ≡ net.chan
chan_there [] i net e = absurd (cc)
chan_there (x ∷ nets) zero net e = let same : x ≡ net = cc in ap (λ (s : net_site.Site). s.chan) same
chan_there (x ∷ nets) (suc i) net e = chan_there nets i net e

sends_there : (nets : List net_site.Site) (i : ℕ) (net : net_site.Site) → slice_get nets i ≡ Some net → sends_at nets i ≡ net.sends
sends_there [] i net e = absurd (cc)
sends_there (x ∷ nets) zero net e = let same : x ≡ net = cc in ap (λ (s : net_site.Site). s.sends) same
sends_there (x ∷ nets) (suc i) net e = sends_there nets i net e

end_is : (nets : List net_site.Site) (sent : ℕ → Atom) (chan : ℕ) (sends : Bool) (i : ℕ) (site : Site) → IsAsked nets sent i site → is_end chan sends site ≡ is_end_of nets chan sends i
end_is nets sent chan sends i site a =
    ap₂ (λ c t. (c == chan) && cond sends t (not t)) (a.channel ∙ sym (chan_there nets i a.end a.there)) (a.sends ∙ sym (sends_there nets i a.end a.there))

pub requests_are : (nets : List net_site.Site) (sent : ℕ → Atom) (chan : ℕ) (sends : Bool) (i : ℕ) (sites : List Site) (signals : List SiteNets) → length signals ≡ length sites
    → ((m : ℕ) (site : Site) → slice_get sites m ≡ Some site → IsAsked nets sent (i + m) site) → requests_at chan sends sites (map shaken_at signals) ≡ end_requests nets chan sends sent i signals
requests_are nets sent chan sends i [] [] long each = refl
requests_are nets sent chan sends i [] (own ∷ signals) long each = absurd (omega (arith, long))
requests_are nets sent chan sends i (site ∷ sites) [] long each = absurd (omega (arith, long))
requests_are nets sent chan sends i (site ∷ sites) (own ∷ signals) long each =
    let at : i + 0 ≡ i = omega arith in
    let here = subst (λ j. IsAsked nets sent j site) at (each 0 site refl) in
    let rest = requests_are nets sent chan sends (suc i) sites signals (omega (arith, long))
    (λ m s e. let sum : i + suc m ≡ suc i + m = omega arith in subst (λ j. IsAsked nets sent j s) sum (each (suc m) s e)) in
    let same : ◌≡◌ {A = RequestNets} (request_of site (shaken_at own)) (record { ask = net (assert_net own); word = sent i }) = λ d. record { ask = net (assert_net own); word = sym here.own d } in
    ap₂ (λ t more. cond t (request_of site (shaken_at own) ∷ more) more) (end_is nets sent chan sends i site here) rest
    ∙ ap (λ x. cond (is_end_of nets chan sends i) (x ∷ end_requests nets chan sends sent (suc i) signals) (end_requests nets chan sends sent (suc i) signals)) same
