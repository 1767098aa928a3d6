mod Reporting
mod Primes
