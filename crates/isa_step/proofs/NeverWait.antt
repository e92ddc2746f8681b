-- Loads and stores never wait.
use Rattle.std.specs.Prelude.{◌≡◌, ℕ, ◌&&◌, not, Bool, true, false, List, Option, Some, None, if◌then◌else◌}
use Rattle.std.proofs.Common.{refl}
use Rattle.core_regs.specs.declared.registers.Arch.{Arch}
use Rattle.core_regs.specs.declared.causes.Size.{Size}
use Rattle.core_regs.specs.declared.causes.Size.TheVariants.{Byte, Half, Word}
use Rattle.core_regs.specs.State.{exceptions_on}
use Rattle.byte_mem.specs.Access.{bytes_of, fits, loaded}
use Rattle.isa_step.specs.declared.operands.Given.{Given}
use Rattle.op_table.specs.declared.kinds.Kind.{Kind}
use Rattle.op_table.specs.declared.kinds.Kind.TheVariants.{Load, Store, Get, Put}
use Rattle.isa_step.specs.Requests.{request_of, is_link}
use Rattle.isa_step.specs.Shown.{Shown}
use Rattle.isa_step.specs.Effects.{Request}
use Rattle.isa_step.specs.Loads.{address, is_aligned, loads, loads_at, loads_from, loads_past, lowered, stores, stores_at, stores_past, unaligned, keeps}
use Rattle.isa_step.specs.Effects.{Goes}
use Rattle.isa_step.specs.Resting.{idle_request}

either : (a : Arch) (s : Shown) (b : Bool) (x y : Request) → idle_request a x s ≡ None → idle_request a y s ≡ None → idle_request a (if b then x else y) s ≡ None
either a s true x y p q = p
either a s false x y p q = q

past : (g : Given) (a : Arch) (addr : ℕ) (size : Size) (s : Shown) → idle_request a (loads_past g a addr size) s ≡ None
past g a addr Byte s = refl
past g a addr Half s = refl
past g a addr Word s = refl

found : (g : Given) (a : Arch) (size : Size) (addr : ℕ) (o : Option ℕ) (s : Shown) → idle_request a (loads_from g a size addr o) s ≡ None
found g a size addr (Some value) s = refl
found g a size addr None s = past g a addr size s

pub loads_go : (g : Given) (a : Arch) (m : List ℕ) (size : Size) (s : Shown) → idle_request a (loads g a m size) s ≡ None
loads_go g a m size s = either a s (not (is_aligned size (address g)) && exceptions_on a) (unaligned g a size false) (loads_at g a m size (lowered size (address g))) refl (found g a size (lowered size (address g)) (loaded m size a.order (lowered size (address g))) s)

stored_past : (g : Given) (a : Arch) (addr : ℕ) (size : Size) (s : Shown) → idle_request a (stores_past g a addr size) s ≡ None
stored_past g a addr Byte s = refl
stored_past g a addr Half s = refl
stored_past g a addr Word s = refl

pub stores_go : (g : Given) (a : Arch) (m : List ℕ) (size : Size) (s : Shown) → idle_request a (stores g a m size) s ≡ None
stores_go g a m size s =
    let addr = lowered size (address g) in
    either a s (not (is_aligned size (address g)) && exceptions_on a) (unaligned g a size true) (stores_at g a m size addr) refl
    (either a s (fits m addr (bytes_of size)) (Goes (keeps g a size addr None)) (stores_past g a addr size) refl (stored_past g a addr size s))

-- only a link access waits
pub links_alone_wait : (kind : Kind) (g : Given) (a : Arch) (m : List ℕ) (s : Shown) → is_link kind ≡ false → idle_request a (request_of kind g a m) s ≡ None
unfolding request_of
links_alone_wait (Load size) g a m s h = loads_go g a m size s
links_alone_wait (Store size) g a m s h = stores_go g a m size s
links_alone_wait (Get dynamic) g a m s h = cc
links_alone_wait (Put dynamic) g a m s h = cc
links_alone_wait kind g a m s h = refl
