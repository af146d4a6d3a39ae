mod CheckedBytes
mod Taking
