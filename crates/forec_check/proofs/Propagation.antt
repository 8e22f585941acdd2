-- Tables that hold what all bodies tell.
use Rattle.std.proofs.Common.{ℕ, suc, ◌+◌, ◌<◌, ◌≡◌, ◌≢◌, ◌∙◌, sym, ap, refl, subst, Bool, true, false, cond, not, ◌&&◌, Option, Some, None, List, [], ◌∷◌, length, get_or, drop, add-one}
use Rattle.std.proofs.Math.Seq.{drop-cons}
use Rattle.std.specs.Prelude.{nat_lt}
use Rattle.forec_tree.specs.Terms.{Text, PlainFunction}
use Rattle.forec_tree.specs.Rules.{is_none}
use Rattle.forec_tree.specs.Pauses.{find_function}
use Rattle.forec_check.specs.AccessScan.{instances_of}
use Rattle.forec_tree.specs.Faults.{is_in}
use Rattle.loop_check.specs.Known.{is_function}
use Rattle.loop_check.proofs.IndexLemmas.{split}
use Rattle.loop_check.proofs.Ordered.{place_of}
use Rattle.forec_check.specs.declared.instances.call_sites.CallSites.{CallSites}
use Rattle.forec_check.specs.declared.instances.call_sites.CallSites.TheVariants as sites
use Rattle.forec_check.specs.declared.instances.propagate.SiteTables.{SiteTables}
use Rattle.program_walk.specs.declared.walk.effects.Effect.{Effect}
use Rattle.forec_check.specs.declared.instances.single.SingleAccess.{SingleAccess}
use Rattle.forec_check.specs.AccessCounts.{Orders, effects_in}
use Rattle.forec_check.specs.CallSites.{SiteMaps, InstanceView, sites_at, opened_sites, inside_after, Holds, MovesNothing, site_maps, outermost, SameTables, HoldsEffects, body_settled, AllSettled}
use Rattle.forec_check.specs.SingleAccess.{not_many, is_single, TellsSingle}
use Rattle.forec_check.proofs.Single.{single}

abbrev known : List CallSites → List CallSites → List CallSites → SiteMaps
known calls texts globals = record { calls = sites_at calls; texts = sites_at texts; globals = sites_at globals }

pub same_known : (a b : SiteTables) → SameTables a b → site_maps b ≡ site_maps a
same_known a b s =
    ap (λ x. known x b.texts.items b.globals.items) s.calls ∙ (ap (λ x. known a.calls.items x b.globals.items) s.texts ∙ ap (λ x. known a.calls.items a.texts.items x) s.globals)

pub same_next : (a b d : SiteTables) → SameTables a b → SameTables b d → SameTables a d
same_next a b d f g = record { calls = g.calls ∙ f.calls; texts = g.texts ∙ f.texts; globals = g.globals ∙ f.globals }

-- one more effect
pub settled_step : (t : SiteMaps) (f i : ℕ) (effects : List Effect) (default : Effect) (site : CallSites) (before after : InstanceView) → i < length effects →
    site ≡ opened_sites (t.calls f) (record { function = f; effect = i + 1 }) → MovesNothing t (get_or effects i default) site before after →
    HoldsEffects t f ((i + 1) + 1) after (drop (i + 1) effects) → HoldsEffects t f (i + 1) before (drop i effects)
settled_step t f i effects default site before after h s r rest =
    let x = get_or effects i default in
    let e : drop i effects ≡ x ∷ drop (i + 1) effects = drop-cons effects i default h ∙ ap (λ n. x ∷ drop n effects) (sym (add-one i)) in
    subst (λ l. HoldsEffects t f (i + 1) before l) (sym e) (
      subst (λ q. Holds t x q before) s r.holds,
      subst (λ q. HoldsEffects t f (suc (i + 1)) q (drop (i + 1) effects)) (r.next ∙ ap (λ q. inside_after x q before) s)
          (subst (λ n. HoldsEffects t f n after (drop (i + 1) effects)) (add-one (i + 1)) rest),
    )

-- each function that is called
every_body : (text : Text) (first : ℕ) (order : List ℕ) (t : SiteMaps) → Orders text order → AllSettled text first order t → (f : ℕ) → t.calls f ≢ sites.None → body_settled text t f
every_body text first order t o s f some =
    split (is_function text f)
    (λ i. let at = place_of f order (o.whole f i) in subst (λ x. body_settled text t x) at.is (s.bodies at.place at.low (λ e. some (sym (ap t.calls at.is) ∙ e))))
    (λ i. none (find_function f text) i)
  where
    none : (x : Option PlainFunction) → not (is_none x) ≡ false → HoldsEffects t f 1 (outermost t f) (effects_in text x)
    none None i = refl
    none (Some x) i = absurd (let q : true ≡ false = i in cc)

pub told : (text : Text) (first : ℕ) (order : List ℕ) (tables : SiteTables) (n : SingleAccess) (moved : Bool) → Orders text order → (moved ≡ false → AllSettled text first order (site_maps tables)) →
    n.globals ≡ tables.globals → n.certain ≡ not moved → TellsSingle text first n
told text first order tables n moved o s globals certain =
    λ g e.
    let t = site_maps tables in
    let rests : moved ≡ false = is_false moved (sym certain ∙ both (not_many (sites_at n.globals.items g)) n.certain e) in
    let all = s rests in
    single text t o.free (every_body text first order t o all) g
    (λ m. many (sites_at n.globals.items g) (ap (λ v. sites_at v.items g) globals ∙ m) (second n.certain (not_many (sites_at n.globals.items g)) e)) first all.calls all.texts
  where
    is_false : (b : Bool) → not b ≡ true → b ≡ false
    is_false true e = absurd (let q : false ≡ true = e in cc)
    is_false false e = refl

    both : (b a : Bool) → (a && b) ≡ true → a ≡ true
    both b true e = refl
    both b false e = e

    second : (a b : Bool) → (a && b) ≡ true → b ≡ true
    second true b e = e
    second false b e = absurd (let q : false ≡ true = e in cc)

    many : (x : CallSites) → x ≡ sites.Many → not_many x ≡ true → ⊥
    many x e h = let q : false ≡ true = ap not_many (sym e) ∙ h in cc
