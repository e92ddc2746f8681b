-- The instruction table of UG984 as one list, and when a word is of a row.
use Rattle.std.specs.Prelude.{◌≡◌, ℕ, ◌+◌, ◌*◌, ◌/◌, ◌^◌, ◌<◌, ◌==◌, Bool, true, false, List, [], ◌∷◌, bit_and, codes, filter, get_or, Contains}
use denote.Enum.Declared.{tag_of}
use Rattle.core_regs.specs.declared.causes.Size.TheVariants as size
use Rattle.op_table.specs.declared.entry.Row.{Row}
use Rattle.op_table.specs.declared.form.Form.{Form}
use Rattle.op_table.specs.declared.form.Form.TheVariants.{A, U, B, S, R, Rl, I, Il, Cr, Ci, M, N, T, E, G, P, Gd, Pd}
use Rattle.op_table.specs.declared.kinds.Kind.{Kind}
use Rattle.op_table.specs.declared.kinds.Kind.TheVariants.{Add, Rsub, Compare, Multiply, Shift, Divide, Logic, FirstEqualByte, IsEqual, ShiftByOne, Unary, Cache, MoveFrom, MoveToMsr, SetMsr, ClearMsr, Branch, Break, BranchIf, Return, Prefix, Barrier, Load, Store, Get, Put}
use Rattle.op_table.specs.declared.kinds.LogicKind.TheVariants as logic
use Rattle.op_table.specs.declared.kinds.MulKind.TheVariants as mul
use Rattle.op_table.specs.declared.kinds.ShiftKind.TheVariants as shift
use Rattle.op_table.specs.declared.kinds.TopBit.TheVariants as top
use Rattle.op_table.specs.declared.kinds.UnaryKind.TheVariants as unary
use Rattle.op_table.specs.declared.kinds.Special.TheVariants as special
use Rattle.op_table.specs.declared.kinds.Condition.TheVariants as when
use Rattle.op_table.specs.declared.kinds.Return.TheVariants as ret
use Rattle.op_table.specs.declared.kinds.Second.{Second}
use Rattle.op_table.specs.declared.kinds.Second.TheVariants.{Register, Immediate, Count}
use Rattle.op_table.specs.contracts.op.Op.{the_type}
use Rattle.op_table.specs.declared.op.Op.{Op}
use Rattle.op_table.specs.declared.op.Op.TheVariants as op
use Rattle.op_table.specs.declared.table.TheConstants.{FIRST_ROW}
use Rattle.op_table.specs.Forms.{mask_of}
use Rattle.op_table.specs.Mnemonics.{mnemonic}
use Rattle.op_table.specs.Kinds.{belongs_into_slot, latency_of, stores}

-- the row of an instruction: its mnemonic and form, its opcode and what it fixes in the 26 bits below the opcode, where its second
-- operand stands, and what it does
abbrev pub listed : Op → List ℕ → Form → ℕ → ℕ → Second → Kind → Row
listed op name form code rest second kind = record {
  op = op;
  name = mnemonic name;
  mask = mask_of form;
  bits = code * 2 ^ 26 + rest;
  form = form;
  second = second;
  latency = latency_of kind;
  slot_ok = belongs_into_slot kind;
  kind = kind;
}

-- a value fixed in the field rD or rA
abbrev pub in_rd : ℕ → ℕ
in_rd x = x * 2 ^ 21

abbrev pub in_ra : ℕ → ℕ
in_ra x = x * 2 ^ 16

-- the table
unfoldable pub rows : List Row
rows =
    -- opcodes 00 to 07: sums and differences of registers; 05 has the comparisons too
    listed op.Add (codes "add") A 0x00 0x000 Register (Add false false)
    ∷ listed op.Rsub (codes "rsub") A 0x01 0x000 Register (Rsub false false)
    ∷ listed op.Addc (codes "addc") A 0x02 0x000 Register (Add true false)
    ∷ listed op.Rsubc (codes "rsubc") A 0x03 0x000 Register (Rsub true false)
    ∷ listed op.Addk (codes "addk") A 0x04 0x000 Register (Add false true)
    ∷ listed op.Rsubk (codes "rsubk") A 0x05 0x000 Register (Rsub false true)
    ∷ listed op.Cmp (codes "cmp") A 0x05 0x001 Register (Compare true)
    ∷ listed op.Cmpu (codes "cmpu") A 0x05 0x003 Register (Compare false)
    ∷ listed op.Addkc (codes "addkc") A 0x06 0x000 Register (Add true true)
    ∷ listed op.Rsubkc (codes "rsubkc") A 0x07 0x000 Register (Rsub true true)
    -- opcodes 08 to 0F: the same with an immediate
    ∷ listed op.Addi (codes "addi") B 0x08 0 Immediate (Add false false)
    ∷ listed op.Rsubi (codes "rsubi") B 0x09 0 Immediate (Rsub false false)
    ∷ listed op.Addic (codes "addic") B 0x0A 0 Immediate (Add true false)
    ∷ listed op.Rsubic (codes "rsubic") B 0x0B 0 Immediate (Rsub true false)
    ∷ listed op.Addik (codes "addik") B 0x0C 0 Immediate (Add false true)
    ∷ listed op.Rsubik (codes "rsubik") B 0x0D 0 Immediate (Rsub false true)
    ∷ listed op.Addikc (codes "addikc") B 0x0E 0 Immediate (Add true true)
    ∷ listed op.Rsubikc (codes "rsubikc") B 0x0F 0 Immediate (Rsub true true)
    -- opcode 10: products, low word and high words
    ∷ listed op.Mul (codes "mul") A 0x10 0x000 Register (Multiply mul.Low)
    ∷ listed op.Mulh (codes "mulh") A 0x10 0x001 Register (Multiply mul.High)
    ∷ listed op.Mulhsu (codes "mulhsu") A 0x10 0x002 Register (Multiply mul.HighSu)
    ∷ listed op.Mulhu (codes "mulhu") A 0x10 0x003 Register (Multiply mul.HighU)
    -- opcode 11: shifts by a register
    ∷ listed op.Bsrl (codes "bsrl") A 0x11 0x000 Register (Shift shift.Right)
    ∷ listed op.Bsra (codes "bsra") A 0x11 0x200 Register (Shift shift.Arith)
    ∷ listed op.Bsll (codes "bsll") A 0x11 0x400 Register (Shift shift.Left)
    -- opcode 12: quotients, signed and unsigned
    ∷ listed op.Idiv (codes "idiv") A 0x12 0x000 Register (Divide true)
    ∷ listed op.Idivu (codes "idivu") A 0x12 0x002 Register (Divide false)
    -- opcode 13: stream accesses whose port is in a register
    ∷ listed op.Getd (codes "getd") Gd 0x13 0x000 Register (Get true)
    ∷ listed op.Putd (codes "putd") Pd 0x13 0x400 Register (Put true)
    -- opcode 18: product with an immediate
    ∷ listed op.Muli (codes "muli") B 0x18 0 Immediate (Multiply mul.Low)
    -- opcode 19: shifts by a fixed count
    ∷ listed op.Bsrli (codes "bsrli") S 0x19 0x000 Count (Shift shift.Right)
    ∷ listed op.Bsrai (codes "bsrai") S 0x19 0x200 Count (Shift shift.Arith)
    ∷ listed op.Bslli (codes "bslli") S 0x19 0x400 Count (Shift shift.Left)
    -- opcode 1B: stream accesses of a fixed port
    ∷ listed op.Get (codes "get") G 0x1B 0x000 Register (Get false)
    ∷ listed op.Put (codes "put") P 0x1B 0x8000 Register (Put false)
    -- opcodes 20 to 23: bitwise logic, and pattern comparisons
    ∷ listed op.Or (codes "or") A 0x20 0x000 Register (Logic logic.Or)
    ∷ listed op.Pcmpbf (codes "pcmpbf") A 0x20 0x400 Register FirstEqualByte
    ∷ listed op.And (codes "and") A 0x21 0x000 Register (Logic logic.And)
    ∷ listed op.Xor (codes "xor") A 0x22 0x000 Register (Logic logic.Xor)
    ∷ listed op.Pcmpeq (codes "pcmpeq") A 0x22 0x400 Register (IsEqual true)
    ∷ listed op.Andn (codes "andn") A 0x23 0x000 Register (Logic logic.Andn)
    ∷ listed op.Pcmpne (codes "pcmpne") A 0x23 0x400 Register (IsEqual false)
    -- opcode 24: shifts by one, and what is made of one word
    ∷ listed op.Sra (codes "sra") U 0x24 0x0001 Register (ShiftByOne top.Sign)
    ∷ listed op.Src (codes "src") U 0x24 0x0021 Register (ShiftByOne top.Carry)
    ∷ listed op.Srl (codes "srl") U 0x24 0x0041 Register (ShiftByOne top.Zero)
    ∷ listed op.Sext8 (codes "sext8") U 0x24 0x0060 Register (Unary unary.ExtendByte)
    ∷ listed op.Sext16 (codes "sext16") U 0x24 0x0061 Register (Unary unary.ExtendHalf)
    ∷ listed op.Clz (codes "clz") U 0x24 0x00E0 Register (Unary unary.CountZeros)
    ∷ listed op.Swapb (codes "swapb") U 0x24 0x01E0 Register (Unary unary.SwapBytes)
    ∷ listed op.Swaph (codes "swaph") U 0x24 0x01E2 Register (Unary unary.SwapHalves)
    -- opcode 24: caches
    ∷ listed op.Wdc (codes "wdc") Cr 0x24 0x0064 Register Cache
    ∷ listed op.WdcFlush (codes "wdc.flush") Cr 0x24 0x0074 Register Cache
    ∷ listed op.WdcClear (codes "wdc.clear") Cr 0x24 0x0066 Register Cache
    ∷ listed op.Wic (codes "wic") Cr 0x24 0x0068 Register Cache
    -- opcode 25: special registers
    ∷ listed op.MfsRpc (codes "mfs") M 0x25 0x8000 Register (MoveFrom special.Pc)
    ∷ listed op.MfsRmsr (codes "mfs") M 0x25 0x8001 Register (MoveFrom special.Msr)
    ∷ listed op.MfsRear (codes "mfs") M 0x25 0x8003 Register (MoveFrom special.Ear)
    ∷ listed op.MfsResr (codes "mfs") M 0x25 0x8005 Register (MoveFrom special.Esr)
    ∷ listed op.MfsRbtr (codes "mfs") M 0x25 0x800B Register (MoveFrom special.Btr)
    ∷ listed op.MfsRedr (codes "mfs") M 0x25 0x800D Register (MoveFrom special.Edr)
    ∷ listed op.Mts (codes "mts") T 0x25 0xC001 Register MoveToMsr
    ∷ listed op.Msrset (codes "msrset") E 0x25 (in_ra 0x10) Register SetMsr
    ∷ listed op.Msrclr (codes "msrclr") E 0x25 (in_ra 0x11) Register ClearMsr
    -- opcode 26: branches to or by a register
    ∷ listed op.Br (codes "br") R 0x26 (in_ra 0x00) Register (Branch false false false)
    ∷ listed op.Bra (codes "bra") R 0x26 (in_ra 0x08) Register (Branch true false false)
    ∷ listed op.Brd (codes "brd") R 0x26 (in_ra 0x10) Register (Branch false true false)
    ∷ listed op.Brad (codes "brad") R 0x26 (in_ra 0x18) Register (Branch true true false)
    ∷ listed op.Brld (codes "brld") Rl 0x26 (in_ra 0x14) Register (Branch false true true)
    ∷ listed op.Brald (codes "brald") Rl 0x26 (in_ra 0x1C) Register (Branch true true true)
    ∷ listed op.Brk (codes "brk") Rl 0x26 (in_ra 0x0C) Register Break
    -- opcode 27: conditional branches by a register
    ∷ listed op.Beq (codes "beq") Cr 0x27 (in_rd 0x00) Register (BranchIf when.Equal false)
    ∷ listed op.Beqd (codes "beqd") Cr 0x27 (in_rd 0x10) Register (BranchIf when.Equal true)
    ∷ listed op.Bne (codes "bne") Cr 0x27 (in_rd 0x01) Register (BranchIf when.Unequal false)
    ∷ listed op.Bned (codes "bned") Cr 0x27 (in_rd 0x11) Register (BranchIf when.Unequal true)
    ∷ listed op.Blt (codes "blt") Cr 0x27 (in_rd 0x02) Register (BranchIf when.Less false)
    ∷ listed op.Bltd (codes "bltd") Cr 0x27 (in_rd 0x12) Register (BranchIf when.Less true)
    ∷ listed op.Ble (codes "ble") Cr 0x27 (in_rd 0x03) Register (BranchIf when.LessOrEqual false)
    ∷ listed op.Bled (codes "bled") Cr 0x27 (in_rd 0x13) Register (BranchIf when.LessOrEqual true)
    ∷ listed op.Bgt (codes "bgt") Cr 0x27 (in_rd 0x04) Register (BranchIf when.Greater false)
    ∷ listed op.Bgtd (codes "bgtd") Cr 0x27 (in_rd 0x14) Register (BranchIf when.Greater true)
    ∷ listed op.Bge (codes "bge") Cr 0x27 (in_rd 0x05) Register (BranchIf when.GreaterOrEqual false)
    ∷ listed op.Bged (codes "bged") Cr 0x27 (in_rd 0x15) Register (BranchIf when.GreaterOrEqual true)
    -- opcodes 28 to 2B: bitwise logic with an immediate
    ∷ listed op.Ori (codes "ori") B 0x28 0 Immediate (Logic logic.Or)
    ∷ listed op.Andi (codes "andi") B 0x29 0 Immediate (Logic logic.And)
    ∷ listed op.Xori (codes "xori") B 0x2A 0 Immediate (Logic logic.Xor)
    ∷ listed op.Andni (codes "andni") B 0x2B 0 Immediate (Logic logic.Andn)
    -- opcode 2C: the upper half of the next immediate
    ∷ listed op.Imm (codes "imm") I 0x2C 0 Register Prefix
    -- opcode 2D: returns
    ∷ listed op.Rtsd (codes "rtsd") Ci 0x2D (in_rd 0x10) Immediate (Return ret.Subroutine)
    ∷ listed op.Rtid (codes "rtid") Ci 0x2D (in_rd 0x11) Immediate (Return ret.Interrupt)
    ∷ listed op.Rtbd (codes "rtbd") Ci 0x2D (in_rd 0x12) Immediate (Return ret.Break)
    ∷ listed op.Rted (codes "rted") Ci 0x2D (in_rd 0x14) Immediate (Return ret.Exception)
    -- opcode 2E: branches to or by an immediate, and the barrier
    ∷ listed op.Bri (codes "bri") I 0x2E (in_ra 0x00) Immediate (Branch false false false)
    ∷ listed op.Brai (codes "brai") I 0x2E (in_ra 0x08) Immediate (Branch true false false)
    ∷ listed op.Brid (codes "brid") I 0x2E (in_ra 0x10) Immediate (Branch false true false)
    ∷ listed op.Braid (codes "braid") I 0x2E (in_ra 0x18) Immediate (Branch true true false)
    ∷ listed op.Brlid (codes "brlid") Il 0x2E (in_ra 0x14) Immediate (Branch false true true)
    ∷ listed op.Bralid (codes "bralid") Il 0x2E (in_ra 0x1C) Immediate (Branch true true true)
    ∷ listed op.Brki (codes "brki") Il 0x2E (in_ra 0x0C) Immediate Break
    ∷ listed op.Mbar (codes "mbar") N 0x2E (in_ra 0x02 + 4) Register Barrier
    -- opcode 2F: conditional branches by an immediate
    ∷ listed op.Beqi (codes "beqi") Ci 0x2F (in_rd 0x00) Immediate (BranchIf when.Equal false)
    ∷ listed op.Beqid (codes "beqid") Ci 0x2F (in_rd 0x10) Immediate (BranchIf when.Equal true)
    ∷ listed op.Bnei (codes "bnei") Ci 0x2F (in_rd 0x01) Immediate (BranchIf when.Unequal false)
    ∷ listed op.Bneid (codes "bneid") Ci 0x2F (in_rd 0x11) Immediate (BranchIf when.Unequal true)
    ∷ listed op.Blti (codes "blti") Ci 0x2F (in_rd 0x02) Immediate (BranchIf when.Less false)
    ∷ listed op.Bltid (codes "bltid") Ci 0x2F (in_rd 0x12) Immediate (BranchIf when.Less true)
    ∷ listed op.Blei (codes "blei") Ci 0x2F (in_rd 0x03) Immediate (BranchIf when.LessOrEqual false)
    ∷ listed op.Bleid (codes "bleid") Ci 0x2F (in_rd 0x13) Immediate (BranchIf when.LessOrEqual true)
    ∷ listed op.Bgti (codes "bgti") Ci 0x2F (in_rd 0x04) Immediate (BranchIf when.Greater false)
    ∷ listed op.Bgtid (codes "bgtid") Ci 0x2F (in_rd 0x14) Immediate (BranchIf when.Greater true)
    ∷ listed op.Bgei (codes "bgei") Ci 0x2F (in_rd 0x05) Immediate (BranchIf when.GreaterOrEqual false)
    ∷ listed op.Bgeid (codes "bgeid") Ci 0x2F (in_rd 0x15) Immediate (BranchIf when.GreaterOrEqual true)
    -- opcodes 30 to 36: loads and stores
    ∷ listed op.Lbu (codes "lbu") A 0x30 0x000 Register (Load size.Byte)
    ∷ listed op.Lhu (codes "lhu") A 0x31 0x000 Register (Load size.Half)
    ∷ listed op.Lw (codes "lw") A 0x32 0x000 Register (Load size.Word)
    ∷ listed op.Sb (codes "sb") A 0x34 0x000 Register (Store size.Byte)
    ∷ listed op.Sh (codes "sh") A 0x35 0x000 Register (Store size.Half)
    ∷ listed op.Sw (codes "sw") A 0x36 0x000 Register (Store size.Word)
    -- opcodes 38 to 3E: the same with an immediate
    ∷ listed op.Lbui (codes "lbui") B 0x38 0 Immediate (Load size.Byte)
    ∷ listed op.Lhui (codes "lhui") B 0x39 0 Immediate (Load size.Half)
    ∷ listed op.Lwi (codes "lwi") B 0x3A 0 Immediate (Load size.Word)
    ∷ listed op.Sbi (codes "sbi") B 0x3C 0 Immediate (Store size.Byte)
    ∷ listed op.Shi (codes "shi") B 0x3D 0 Immediate (Store size.Half)
    ∷ listed op.Swi (codes "swi") B 0x3E 0 Immediate (Store size.Word)
    ∷ []

-- a word is of a row where its bits under the mask are the row's bits
abbrev pub matches : ℕ → Row → Bool
matches w r = bit_and w r.mask == r.bits

-- the rows that a word is of
abbrev pub rows_of : ℕ → List Row
rows_of w = filter (matches w) rows

-- the opcode of a word, its six highest bits
abbrev pub opcode : ℕ → ℕ
opcode w = w / 2 ^ 26

-- where the rows of each opcode begin, and after the last opcode where they end
unfoldable pub first_rows : List ℕ
first_rows = FIRST_ROW

-- the place of an instruction among the variants of `Op`
abbrev pub place : Op → ℕ
place name = tag_of the_type name

-- the row at the instruction's place; the table has one, so that the row of nothing never comes
unfoldable pub row_for : Op → Row
row_for name = get_or rows (place name) (listed name [] A 0 0 Register Cache)

-- what an instruction does, and where its second operand stands
abbrev pub kind_of : Op → Kind
kind_of name = (row_for name).kind

abbrev pub second_of : Op → Second
second_of name = (row_for name).second

-- the instructions that store to memory
abbrev pub is_store : Op → Bool
is_store name = stores (kind_of name)

-- a row fixes all bits of its form that are no field, and no others; what it does tells how soon its register can be used, and
-- whether a slot takes it
pub record IsSound (r : Row) : Type 0 where
  pub mask : r.mask ≡ mask_of r.form
  pub bits : bit_and r.bits r.mask ≡ r.bits
  pub word : r.bits < 2 ^ 32
  pub latency : r.latency ≡ latency_of r.kind
  pub slot : r.slot_ok ≡ belongs_into_slot r.kind

-- the row of an instruction, the only one of that name
pub record IsRowOf (name : Op) (r : Row) : Type 0 where
  pub named : r.op ≡ name
  pub listed : Contains rows r
  pub only : (s : Row) → Contains rows s → s.op ≡ name → s ≡ r
