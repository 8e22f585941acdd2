-- Globals that one thread instance alone names.
use Rattle.std.specs.Prelude.{ℕ, ◌≡◌, Bool, true, false, ◌&&◌, nat_lt}
use Rattle.forec_tree.specs.Terms.{Text}
use Rattle.forec_check.specs.AccessScan.{instances_of}
use Rattle.forec_check.specs.declared.instances.call_sites.CallSites.{CallSites}
use Rattle.forec_check.specs.declared.instances.call_sites.CallSites.TheVariants as sites
use Rattle.forec_check.specs.declared.instances.single.SingleAccess.{SingleAccess}
use Rattle.forec_check.specs.CallSites.{sites_at}

abbrev pub not_many : CallSites → Bool
not_many sites.Many = false
not_many _ = true

abbrev pub is_single : SingleAccess → ℕ → Bool
is_single n g = n.certain && not_many (sites_at n.globals.items g)

-- what is told single is named by one instance at most
abbrev pub TellsSingle : Text → ℕ → SingleAccess → Type 0
TellsSingle text first n = (g : ℕ) → is_single n g ≡ true → nat_lt 1 (instances_of text g first) ≡ false
